use Rattle.std.proofs.Common.{◌≡◌, ◌++◌, drop, map}
use Rattle.std.specs.List.{flat_map}
use Rattle.elab_flat_drivers.specs.Parts.{part_meant}
use Rattle.elab_flat_drivers.specs.Wanting.{output_parts}
use Rattle.elab_flat_drivers.proofs.wanted.add_outputs.Given as goal

abbrev pub invariant-loop-port : goal.invariant-loop-port
invariant-loop-port l = map part_meant l.all.items ++ flat_map output_parts (drop l.port-index l.ports) ≡ map part_meant l.initial.all.items ++ flat_map output_parts (l.ports)
