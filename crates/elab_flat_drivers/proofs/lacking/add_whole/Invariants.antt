use Rattle.std.proofs.Common.{◌≡◌, ◌++◌, drop, map}
use Rattle.elab_flat_scopes.specs.Borrowed.{name_meant}
use Rattle.elab_flat_faults.specs.Drivers.{Input}
use Rattle.elab_flat_drivers.specs.Driving.{driver_meant}
use Rattle.elab_flat_drivers.proofs.lacking.add_whole.Given as goal

abbrev pub invariant-loop-name : goal.invariant-loop-name
invariant-loop-name l = map driver_meant l.all.items ++ map Input (map name_meant (drop l.name-index l.names)) ≡ map driver_meant l.initial.all.items ++ map Input (map name_meant l.names)
