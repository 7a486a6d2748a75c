use Rattle.std.proofs.Common.{◌≡◌, ◌++◌, drop, map}
use Rattle.elab_step_flow.specs.Edges.{moved_edge}
use Rattle.elab_step_flow.proofs.edges.add_moved.Given as goal

abbrev pub invariant-loop-edge : goal.invariant-loop-edge
invariant-loop-edge l = l.all.items ++ map (moved_edge l.places) (drop l.edge-index l.edges) ≡ l.initial.all.items ++ map (moved_edge l.places) l.edges
