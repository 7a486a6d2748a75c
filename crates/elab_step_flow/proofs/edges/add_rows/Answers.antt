use Rattle.std.proofs.Common.{◌<◌, length, arith, sym, ap, ◌∙◌}
use Rattle.elab_flat_graphs.specs.Graphs.{graph_of, successors}
use Rattle.elab_step_flow.proofs.Edging.{Row, row_added, row_there}
use Rattle.elab_step_flow.proofs.edges.add_rows.Goals as goal

pub loop-from-preserved : goal.loop-from-preserved
loop-from-preserved c =
    let rows = c.args.rows.now in
    let lt : c.loop-from.from < length rows = omega (arith, c.loop-from-test.true, c.loop-from.auto.from-end) in
    row_added (λ i. successors (graph_of rows) i) c.loop-from.from c.args.all.now.items c.loop-from.all.items c.add_edges.new.all.items c.deref.result.now c.loop-from.invariant c.in_ok-add_edges.ensures
    (c.deref.ensures.value ∙ (ap (λ (z : Row). z.items) c.index-rows-from.is ∙ sym (row_there rows c.loop-from.from c.index-rows-from.result lt)))
