use Rattle.std.proofs.lemmas.Result.{IfOk-weaker}
use Rattle.twin_tests.proofs.formula.test_node.Goals as goal

pub returns-clause-node : goal.returns-clause-node
returns-clause-node c = IfOk-weaker c.nonzero.result _ _ (λ i made f shows. made _ (c.in_ok-value.ensures.node f shows)) c.nonzero.ensures.node
