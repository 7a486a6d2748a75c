use Rattle.std.proofs.Common.{max}
use Rattle.vlog_tree.specs.Value.{width_of, sign_of}
use Rattle.elab_flat_widths.proofs.taken.check_stored.Goals as goal

pub returns-in-Err-clause-err : goal.returns-in-Err-clause-err
returns-in-Err-clause-err c = c.in-Err.ensures.err (max (width_of c.args.rest.now c.args.expr.now) c.args.least) (sign_of c.args.rest.now c.args.expr.now)
