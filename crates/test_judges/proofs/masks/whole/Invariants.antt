use Rattle.std.proofs.Common.{◌≡◌, ◌++◌, drop}
use Rattle.test_judges.specs.Judging.{whole}
use Rattle.test_judges.proofs.masks.whole.Given as goal

abbrev pub invariant-loop-signal : goal.invariant-loop-signal
invariant-loop-signal l = l.all.items ++ whole (drop l.signal-index l.signals) ≡ whole l.signals
