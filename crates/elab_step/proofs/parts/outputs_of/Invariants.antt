use Rattle.std.proofs.Common.{◌≡◌, ◌++◌, drop}
use Rattle.std.specs.List.{flat_map}
use Rattle.elab_step.specs.Parts.{output_of}
use Rattle.elab_step.proofs.parts.outputs_of.Given as goal

abbrev pub invariant-loop-port : goal.invariant-loop-port
invariant-loop-port l = l.all.items ++ flat_map output_of (drop l.port-index l.ports) ≡ flat_map output_of l.ports
