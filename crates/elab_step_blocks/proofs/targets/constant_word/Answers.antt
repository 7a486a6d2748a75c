use Rattle.elab_step_blocks.proofs.Giving.{constant_here}
use Rattle.elab_step_blocks.proofs.targets.constant_word.Goals as goal

pub returns-in-Const : goal.returns-in-Const
returns-in-Const c = constant_here c.args.dag.now c.args.a c.node.result.now c.in-Const.word c.nodes-fit.ensures.fit c.requires c.node.ensures c.in-Const.is
