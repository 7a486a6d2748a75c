use Rattle.std.proofs.Common.{◌≡◌, ◌++◌, drop}
use Rattle.std.specs.List.{flat_map}
use Rattle.mem_faults.specs.Held.{resting}
use Rattle.mem_faults.proofs.rest.all_at_rest.Given as goal

abbrev pub invariant-loop-signal : goal.invariant-loop-signal
invariant-loop-signal l = l.rest ++ flat_map resting (drop l.signal-index l.signals) ≡ flat_map resting l.signals
