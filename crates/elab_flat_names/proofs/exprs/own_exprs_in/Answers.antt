use Rattle.std.proofs.Common.{map}
use Rattle.elab_flat_names.specs.Exprs.{expr_meant}
use Rattle.elab_flat_names.proofs.Standing.{same_own_exprs}
use Rattle.elab_flat_names.proofs.exprs.own_exprs_in.Goals as goal

pub returns : goal.returns
returns c = same_own_exprs c.args.text.now (map expr_meant c.in_ok-own.own.items) c.in_ok-own.ensures
