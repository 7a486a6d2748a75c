use Rattle.std.proofs.Common.{◌≡◌, ◌++◌, drop}
use Rattle.std.specs.List.{flat_map}
use Rattle.elab_step.specs.Parts.{input_of}
use Rattle.elab_step.proofs.parts.inputs_of.Given as goal

abbrev pub invariant-loop-port : goal.invariant-loop-port
invariant-loop-port l = l.all.items ++ flat_map (input_of l.names l.begun) (drop l.port-index l.ports) ≡ flat_map (input_of l.names l.begun) l.ports
