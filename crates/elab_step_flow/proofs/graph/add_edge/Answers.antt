use Rattle.elab_step_flow.proofs.Edging.{edge_put}
use Rattle.elab_step_flow.proofs.graph.add_edge.Goals as goal

pub returns-clause-edges : goal.returns-clause-edges
returns-clause-edges c =
    edge_put c.args.graph.now.items c.args.edge.from c.args.edge.to c.index_mut.result.now c.push.new.self _ c.requires c.index_mut.ensures.value c.in_ok-push.ensures.items
