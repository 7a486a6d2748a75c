use Rattle.std.proofs.Common.{◌≡◌, ◌++◌, drop, map}
use Rattle.elab_flat_drivers.specs.Parts.{part_meant}
use Rattle.test_judges.specs.Driving.{bits_in}
use Rattle.test_judges.proofs.masks.masks.Given as goal

abbrev pub invariant-loop-signal : goal.invariant-loop-signal
invariant-loop-signal l = l.all.items ++ map (bits_in (map part_meant l.parts)) (drop l.signal-index l.signals) ≡ map (bits_in (map part_meant l.parts)) l.signals
