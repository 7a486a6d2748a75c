use Rattle.std.proofs.lemmas.Result.{IfOk-weaker}
use Rattle.twin_tests.proofs.Standing.{same_is}
use Rattle.twin_tests.proofs.words.same.Goals as goal

pub returns-clause-node : goal.returns-clause-node
returns-clause-node c = IfOk-weaker c.add.result _ _ (λ i made. same_is c.args.dag.now c.add.new.self c.args.a c.args.b _ made) c.add.ensures.adds
