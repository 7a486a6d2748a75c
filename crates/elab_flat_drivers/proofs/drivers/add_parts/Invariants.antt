use Rattle.std.proofs.Common.{◌≡◌, ◌++◌, drop, map}
use Rattle.elab_flat_faults.specs.Drivers.{Part}
use Rattle.elab_flat_drivers.specs.Parts.{part_meant}
use Rattle.elab_flat_drivers.specs.Driving.{driver_meant}
use Rattle.elab_flat_drivers.proofs.drivers.add_parts.Given as goal

abbrev pub invariant-loop-part : goal.invariant-loop-part
invariant-loop-part l = map driver_meant l.all.items ++ map Part (map part_meant (drop l.part-index l.part-items)) ≡ map driver_meant l.initial.all.items ++ map Part (map part_meant l.part-items)
