use Rattle.std.proofs.Common.{arith}
use Rattle.replay_eval.proofs.Tracing.{not_as_long}
use Rattle.replay_eval.proofs.trace.agrees.Goals as goal
use Rattle.replay_eval.proofs.trace.agrees.Goals.{then-names-one-via-then-names-one, then-names-one-via-else-names-one+then-names-other}

pub returns-then-names-one : goal.returns-then-names-one
returns-then-names-one c = elim c.then-names-one.branch [
  | then-names-one-via-then-names-one w ↦ not_as_long c.args.names.now c.args.one.now c.args.other.now (λ one other. omega (arith, one, w.if-names-one.true))
  | then-names-one-via-else-names-one+then-names-other w ↦ not_as_long c.args.names.now c.args.one.now c.args.other.now (λ one other. omega (arith, other, w.if-names-other.true))
]
