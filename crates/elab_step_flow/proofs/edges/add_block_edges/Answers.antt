use Rattle.std.proofs.Common.{length, ap, ◌∙◌}
use Rattle.elab_flat_graphs.specs.Graphs.{graph_of, successors}
use Rattle.elab_step_flow.specs.Sets.{tables}
use Rattle.elab_step_flow.proofs.Edging.{block_edges}
use Rattle.elab_step_flow.proofs.edges.add_block_edges.Goals as goal

pub returns-in_ok-add_rows : goal.returns-in_ok-add_rows
returns-in_ok-add_rows c =
    let rows = c.deref.ensures.value in
    block_edges c.args.scope.now c.args.block.now (tables c.in_ok-flow.flow) c.in_ok-flow.ensures.shows c.if-not-block.true (length c.deref.result.now) (λ i. successors (graph_of c.deref.result.now) i) c.args.all.now.items c.add_rows.new.all.items
    (ap length rows ∙ c.in_ok-flow.ensures.sized.through) (λ r i. successors (graph_of (rows r)) i) c.in_ok-add_rows.ensures
