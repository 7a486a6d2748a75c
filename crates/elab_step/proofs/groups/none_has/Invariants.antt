use Rattle.std.proofs.Common.{ℕ, ◌<◌, ◌≢◌, get_or}
use Rattle.elab_step.proofs.groups.none_has.Given as goal

abbrev pub invariant-loop-signal : goal.invariant-loop-signal
invariant-loop-signal l = (k : ℕ) → k < l.signal-index → get_or l.numbers (get_or l.signals k 0) 0 ≢ l.number
