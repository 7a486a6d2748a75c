use Rattle.std.proofs.Common.{◌≡◌, ◌++◌, map, drop}
use Rattle.std.specs.List.{flat_map}
use Rattle.elab_flat_scopes.specs.Borrowed.{name_meant}
use Rattle.elab_step.specs.Parts.{input_name}
use Rattle.elab_step.proofs.graph.add_inputs.Given as goal

abbrev pub invariant-loop-port : goal.invariant-loop-port
invariant-loop-port l = map name_meant l.all.items ++ flat_map input_name (drop l.port-index l.ports) ≡ map name_meant l.initial.all.items ++ flat_map input_name l.ports
