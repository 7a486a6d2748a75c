use Rattle.std.proofs.Common.{arith}
use Rattle.twin_tests.proofs.Frees.{row_step}
use Rattle.twin_tests.proofs.window.row_nodes.Goals as goal

pub loop-name-preserved : goal.loop-name-preserved
loop-name-preserved c =
    row_step c.args.dag.now c.loop-name.dag c.free_node.new.dag c.loop-name.nodes.items c.push.new.self.items c.args.side c.args.cycle c.loop-name.name-index c.in_ok-node.node c.args.names.now _ c.name-item.is (omega arith) c.in_ok-push.ensures.items c.in_ok-node.ensures.grows c.in_ok-node.ensures.frees c.in_ok-node.ensures.width c.in_ok-node.ensures.node c.loop-name.invariant
