use Rattle.std.proofs.Common.{arith}
use Rattle.replay_eval.proofs.Tracing.{not_as_many}
use Rattle.replay_eval.proofs.trace.all_agree.Goals as goal

pub returns-then-one-other : goal.returns-then-one-other
returns-then-one-other c = not_as_many c.args.names.now c.args.one.now c.args.other.now (λ same. omega (arith, same, c.if-one-other.true))
