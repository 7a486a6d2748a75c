use Rattle.std.proofs.Common.{◌⊎◌, ◌↔◌}
use Rattle.vlog_tree_runs.specs.Places.{Among}
use Rattle.elab_flat_graphs.specs.Graphs.{graph_of, successors}
use Rattle.elab_step_flow.specs.declared.edges.Edge.{Edge}
use Rattle.elab_step_flow.specs.Edges.{IsInRows}
use Rattle.elab_step_flow.proofs.edges.add_rows.Given as goal

abbrev pub invariant-loop-from : goal.invariant-loop-from
invariant-loop-from l = (e : Edge) → Among l.all.items e ↔ (Among l.initial.all.items e ⊎ IsInRows l.from (λ i. successors (graph_of l.rows) i) e)
