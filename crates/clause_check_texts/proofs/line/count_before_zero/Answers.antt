use Rattle.std.proofs.Common.{◌≡◌, true, length, get_or, sym, ◌∙◌, arith, false}
use Rattle.std.proofs.lemmas.List.Sums.{position_or_len_is}
use Rattle.clause_check_texts.specs.declared.words.Number.{Number}
use Rattle.clause_check_texts.specs.Lines.{is_zero}
use Rattle.clause_check_texts.proofs.line.count_before_zero.Goals as goal

abbrev nought : Number
nought = record { negative = false; size = 0 }

pub returns-then-is_zero : goal.returns-then-is_zero
returns-then-is_zero c =
    let e : is_zero (get_or c.args.numbers.now c.loop-i.i nought) ≡ true = sym c.is_zero.ensures ∙ c.if-is_zero.true in
    sym (position_or_len_is is_zero c.args.numbers.now c.loop-i.i nought (omega arith) (λ k h. c.loop-i.invariant k nought h) (λ _. e))

pub returns : goal.returns
returns c =
    sym (position_or_len_is is_zero c.args.numbers.now (length c.args.numbers.now) nought (omega arith) (λ k h. c.loop-i.invariant k nought (omega arith)) (λ h. absurd (omega arith)))
