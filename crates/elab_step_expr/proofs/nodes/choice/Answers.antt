use Rattle.elab_step_expr.proofs.Making.{made_mux}
use Rattle.elab_step_expr.proofs.nodes.choice.Goals as goal

pub returns-clause-makes : goal.returns-clause-makes
returns-clause-makes c = made_mux c.args.dag.now c.put.new.dag c.in_ok-number.number c.in_ok-number.ensures.fit c.args.bit c.args.a c.args.b c.requires.bit c.requires.left c.requires.right c.requires.same c.in_ok-number.ensures.adds
