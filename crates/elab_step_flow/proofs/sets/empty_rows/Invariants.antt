use Rattle.std.proofs.Common.{◌≡◌, [], replicate}
use Rattle.elab_flat_graphs.specs.Graphs.{graph_of}
use Rattle.elab_step_flow.proofs.sets.empty_rows.Given as goal

abbrev pub invariant-loop : goal.invariant-loop
invariant-loop l = graph_of l.rows.items ≡ replicate l.counter []
