use Rattle.std.proofs.Common.{◌≡◌, ◌++◌, drop}
use Rattle.std.specs.List.{flat_map}
use Rattle.elab_step_flow.specs.Edges.{assign_edges}
use Rattle.elab_step_flow.proofs.edges.assigns_edges.Given as goal

abbrev pub invariant-loop-assign : goal.invariant-loop-assign
invariant-loop-assign l = l.all.items ++ flat_map (assign_edges l.names) (drop l.assign-index l.assigns) ≡ flat_map (assign_edges l.names) l.assigns
