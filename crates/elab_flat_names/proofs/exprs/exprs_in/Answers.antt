use Rattle.std.proofs.Common.{map}
use Rattle.elab_flat_names.specs.Exprs.{expr_meant}
use Rattle.elab_flat_names.proofs.Standing.{same_exprs}
use Rattle.elab_flat_names.proofs.exprs.exprs_in.Goals as goal

pub returns : goal.returns
returns c = same_exprs c.args.text.now (map expr_meant c.in_ok-all.all.items) c.in_ok-all.ensures
