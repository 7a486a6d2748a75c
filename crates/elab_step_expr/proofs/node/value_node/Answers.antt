use Rattle.elab_step_expr.proofs.Calls.{own_has, own_length}
use Rattle.elab_step_expr.proofs.node.value_node.Goals as goal

pub returns-clause-length : goal.returns-clause-length
returns-clause-length c = own_length c.args.leaves.now c.own_node.new.dag c.args.expr.now c.in_ok-own.own.wire c.in_ok-own.own.signed c.in_ok-own.ensures.node

pub returns-clause-node : goal.returns-clause-node
returns-clause-node c = own_has c.args.leaves.now c.args.dag.now c.own_node.new.dag c.args.expr.now c.in_ok-own.own.wire c.in_ok-own.own.signed c.requires.ready c.in_ok-own.ensures.keeps c.requires.alone.constant c.in_ok-own.ensures.node
