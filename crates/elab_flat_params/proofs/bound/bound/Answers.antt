use Rattle.vlog_tree.specs.Value.{width_of}
use Rattle.elab_flat_params.proofs.bound.bound.Goals as goal

pub returns-in-Err-clause-err : goal.returns-in-Err-clause-err
returns-in-Err-clause-err c = rw c.in-Err.is at (c.in_ok-known.ensures.err (width_of c.args.params.now c.args.expr.now))
