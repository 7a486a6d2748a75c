use Rattle.std.proofs.Common.{◌≡◌, drop}
use Rattle.replay_eval.specs.Traces.{all_agree}
use Rattle.replay_eval.proofs.trace.all_agree.Given as goal

abbrev pub invariant-loop-i : goal.invariant-loop-i
invariant-loop-i l = all_agree l.names (drop l.i l.one) (drop l.i l.other) ≡ all_agree l.names l.one l.other
