use Rattle.std.proofs.Common.{◌≡◌, ◌++◌, drop, map}
use Rattle.elab_flat_faults.specs.Drivers.{input_drivers}
use Rattle.elab_flat_drivers.specs.Driving.{driver_meant}
use Rattle.elab_flat_drivers.proofs.drivers.add_inputs.Given as goal

abbrev pub invariant-loop-port : goal.invariant-loop-port
invariant-loop-port l = map driver_meant l.all.items ++ input_drivers (drop l.port-index l.ports) ≡ map driver_meant l.initial.all.items ++ input_drivers l.ports
