use Rattle.std.proofs.Common.{◌<◌, length, get_or, inl, inr, sym, subst}
use Rattle.elab_flat_drivers.proofs.Marking.{among_at}
use Rattle.elab_step_flow.specs.declared.edges.Edge.{Edge}
use Rattle.elab_step_flow.proofs.Depending.{rows_long, no_edges}
use Rattle.elab_step_flow.proofs.graph.graph_from.Goals as goal

pub loop-edge-init : goal.loop-edge-init
loop-edge-init c = record {
  size = rows_long c.in_ok-graph.graph.items (length c.args.barred.now) c.in_ok-graph.ensures;
  edges = λ i j. (λ h. elim h [ inl f ↦ absurd (no_edges c.in_ok-graph.graph.items (length c.args.barred.now) i j c.in_ok-graph.ensures f) | inr f ↦ f ], λ h. inr h);
}

pub bounds-barred-edge : goal.bounds-barred-edge
bounds-barred-edge c = c.requires _ (among_at c.args.edges.now c.loop-edge.edge-index (record { from = 0; to = 0 }) c.loop-edge-test.true)

pub add_edge-requires : goal.add_edge-requires
add_edge-requires c =
    let none : Edge = record { from = 0; to = 0 } in
    subst (λ n. (get_or c.args.edges.now c.loop-edge.edge-index none).from < n) (sym c.loop-edge.invariant.size) (c.requires _ (among_at c.args.edges.now c.loop-edge.edge-index none c.loop-edge-test.true))
