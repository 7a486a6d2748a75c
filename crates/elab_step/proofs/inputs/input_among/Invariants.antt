use Rattle.std.proofs.Common.{drop}
use Rattle.std.specs.List.{flat_map}
use Rattle.vlog_tree_runs.specs.Places.{Name, Among}
use Rattle.elab_step.specs.Parts.{input_name}
use Rattle.elab_step.proofs.inputs.input_among.Given as goal

abbrev pub invariant-loop-port : goal.invariant-loop-port
invariant-loop-port l = (x : Name) → Among (flat_map input_name l.ports) x → Among l.names x → Among (flat_map input_name (drop l.port-index l.ports)) x
