use Rattle.elab_step_expr.proofs.Forms.{unsettled}
use Rattle.elab_step_expr.proofs.node.node_of.Goals as goal

pub returns-clause-node : goal.returns-clause-node
returns-clause-node c = unsettled c.args.leaves.now c.args.dag.now c.node_at.new.dag c.args.expr.now c.args.length c.args.signed c.in_ok-node.node c.requires.ready c.in_ok-node.ensures.keeps c.in_ok-node.ensures.node
