use Rattle.std.proofs.Common.{◌<◌, ◌≤◌, refl, ap, arith}
use Rattle.std.proofs.lemmas.Result.{IfOk-weaker}
use Rattle.word_core.specs.Words.{Bits}
use Rattle.twin_tests.proofs.Standing.{number_is, counts_later}
use Rattle.twin_tests.proofs.words.nonzero.Goals as goal

pub returns-clause-node : goal.returns-clause-node
returns-clause-node c =
    let width = ap (λ (w : Bits). w.width) c.new.ensures in
    let value = ap (λ (w : Bits). w.value) c.new.ensures in
    let some : 0 < c.new.result.width = omega (arith, width, c.width_at.ensures, c.requires.some) in
    let most : c.new.result.width ≤ 64 = omega (arith, width, c.width_at.ensures, c.requires.most) in
    let zero = number_is c.args.dag.now c.add.new.self c.in_ok-zero.zero 0 c.new.result value some most c.in_ok-zero.ensures.adds in
    IfOk-weaker c.negated.result _ _ (λ i made f p. made _ (c.in_ok-is_zero.ensures.node f (λ e. 0) (counts_later _ _ _ f (c.in_ok-zero.ensures.adds.keeps refl) p) zero)) c.negated.ensures.node
