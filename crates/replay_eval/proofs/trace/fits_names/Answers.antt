use Rattle.std.proofs.Common.{arith}
use Rattle.replay_eval.proofs.Tracing.{other_length}
use Rattle.replay_eval.proofs.trace.fits_names.Goals as goal

pub returns-then-names-row : goal.returns-then-names-row
returns-then-names-row c = other_length c.args.names.now c.args.row.now (λ same. omega (arith, same, c.if-names-row.true))
