use Rattle.std.proofs.Common.{◌≡◌, ℕ, ◌⊎◌, ◌↔◌, length, drop}
use Rattle.vlog_tree_runs.specs.Places.{Among}
use Rattle.elab_flat_graphs.specs.Graphs.{graph_of, successors, Among as Lists}
use Rattle.elab_step_flow.specs.Edges.{edge}
use Rattle.elab_step_flow.specs.Sets.{Has}
use Rattle.elab_step_flow.proofs.graph.graph_from.Given as goal

abbrev pub invariant-loop-edge : goal.invariant-loop-edge
invariant-loop-edge l = record {
  size : length l.graph.items ≡ length l.barred;
  edges : (i j : ℕ) → (Lists (successors (graph_of l.graph.items) i) j ⊎ ((Has l.barred i → ⊥) × Among (drop l.edge-index l.edges) (edge i j))) ↔ ((Has l.barred i → ⊥) × Among l.edges (edge i j));
}
