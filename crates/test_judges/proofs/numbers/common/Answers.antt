use Rattle.std.proofs.Common.{refl}
use Rattle.word_dag.specs.declared.node.Op.TheVariants.{And}
use Rattle.elab_step_expr.proofs.Making.{made_two}
use Rattle.test_judges.proofs.numbers.common.Goals as goal

pub returns-clause-makes : goal.returns-clause-makes
returns-clause-makes c =
    made_two c.args.dag.now c.put.new.dag c.in_ok-number.number c.in_ok-number.ensures.fit And c.args.width (record { node = c.args.a; width = c.args.width }) (record { node = c.args.b; width = c.args.width })
    c.requires.left c.requires.right (refl, refl) c.in_ok-number.ensures.adds
