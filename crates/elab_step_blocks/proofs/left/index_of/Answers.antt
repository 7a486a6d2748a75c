use Rattle.std.proofs.Common.{refl}
use Rattle.elab_step_blocks.proofs.Sides.{index_is}
use Rattle.elab_step_blocks.proofs.left.index_of.Goals as goal

pub returns-clause-index : goal.returns-clause-index
returns-clause-index c =
    index_is c.args.leaves.now c.args.dag.now c.node_of.new.dag c.args.expr.now c.in_ok-own.own.0 c.in_ok-own.own.1 c.in_ok-node.node _ c.requires.ready c.in_ok-node.ensures.keeps c.requires.alone.constant c.in_ok-own.ensures c.in_ok-node.ensures.node refl
