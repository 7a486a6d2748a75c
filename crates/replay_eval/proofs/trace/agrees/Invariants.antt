use Rattle.std.proofs.Common.{◌≡◌, drop}
use Rattle.replay_eval.specs.Traces.{agrees}
use Rattle.replay_eval.proofs.trace.agrees.Given as goal

abbrev pub invariant-loop-i : goal.invariant-loop-i
invariant-loop-i l = agrees (drop l.i l.names) (drop l.i l.one) (drop l.i l.other) ≡ agrees l.names l.one l.other
