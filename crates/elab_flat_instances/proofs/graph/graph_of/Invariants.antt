use Rattle.std.proofs.Common.{◌≡◌, ◌++◌, drop, map}
use Rattle.elab_flat_instances.specs.Graph.{module_targets}
use Rattle.elab_flat_instances.proofs.graph.graph_of.Given as goal

abbrev pub invariant-loop-text : goal.invariant-loop-text
invariant-loop-text l = map (λ v. v.items) l.all.items ++ map (module_targets l.names) (drop l.text-index l.modules) ≡ map (module_targets l.names) l.modules
