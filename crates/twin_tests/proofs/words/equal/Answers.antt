use Rattle.std.proofs.Common.{refl}
use Rattle.std.proofs.lemmas.Result.{IfOk-weaker}
use Rattle.elab_step_expr.proofs.Kept.{keeps_then}
use Rattle.twin_tests.proofs.Standing.{equal_is, counts_later}
use Rattle.twin_tests.proofs.words.equal.Goals as goal

pub returns-clause-keeps : goal.returns-clause-keeps
returns-clause-keeps c =
    IfOk-weaker c.add.result _ _ (λ i made. keeps_then c.args.dag.now c.widened-2.new.dag c.add.new.self (keeps_then c.args.dag.now c.widened.new.dag c.widened-2.new.dag c.in_ok-a.ensures.keeps c.in_ok-b.ensures.keeps) (made.keeps refl)) c.add.ensures.adds

pub returns-clause-node : goal.returns-clause-node
returns-clause-node c = IfOk-weaker c.add.result _ _ (λ i made f g p q. equal_is c.widened-2.new.dag c.add.new.self c.in_ok-a.a c.in_ok-b.b _ made f g (counts_later _ _ _ f c.in_ok-b.ensures.keeps (c.in_ok-a.ensures.node f p)) (c.in_ok-b.ensures.node g (counts_later _ _ _ g c.in_ok-a.ensures.keeps q))) c.add.ensures.adds
