use Rattle.elab_step_expr.proofs.Making.{made_not}
use Rattle.elab_step_expr.proofs.nodes.turned.Goals as goal

pub returns-clause-makes : goal.returns-clause-makes
returns-clause-makes c = made_not c.args.dag.now c.put.new.dag c.in_ok-number.number c.in_ok-number.ensures.fit c.args.a c.requires c.in_ok-number.ensures.adds
