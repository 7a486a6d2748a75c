use Rattle.std.proofs.Common.{max}
use Rattle.vlog_tree.specs.Value.{width_of}
use Rattle.elab_flat_params.proofs.constant.number_at.Goals as goal

pub returns-in-Err-clause-err : goal.returns-in-Err-clause-err
returns-in-Err-clause-err c = rw c.in-Err.is at (c.in_ok-known.ensures.err (max (width_of c.args.params.now c.args.expr.now) c.args.least))
