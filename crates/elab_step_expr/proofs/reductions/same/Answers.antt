use Rattle.elab_step_expr.proofs.Kept.{made_here}
use Rattle.elab_step_expr.proofs.reductions.same.Goals as goal

pub returns-clause-makes : goal.returns-clause-makes
returns-clause-makes c = made_here c.args.dag.now c.args.a.node c.args.a.width c.length_of-width.ensures.fit c.requires
