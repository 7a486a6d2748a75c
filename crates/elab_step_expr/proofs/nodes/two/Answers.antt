use Rattle.elab_step_expr.proofs.Making.{made_two}
use Rattle.elab_step_expr.proofs.nodes.two.Goals as goal

pub returns-clause-makes : goal.returns-clause-makes
returns-clause-makes c = made_two c.args.dag.now c.put.new.dag c.in_ok-number.number c.in_ok-number.ensures.fit c.args.op c.args.width c.args.a c.args.b c.requires.left c.requires.right c.requires.fits c.in_ok-number.ensures.adds
