use Rattle.std.proofs.Common.{arith, subst}
use Rattle.vlog_read_expr.proofs.SignTests.{yes_by, no_by}
use Rattle.vlog_read_spelling.proofs.Tokens.{kind_within}
use Rattle.std.proofs.lemmas.Result.{err_from_is_err_and}
use Rattle.std.specs.Prelude.{codes}
use Rattle.vlog_tree.specs.Signs.{IsSign}
use Rattle.set_read.proofs.PartSteps.{no_hand, some_hand}
use Rattle.set_read.proofs.parts.hand.Goals as goal

pub returns-in_err-list-clause-only : goal.returns-in_err-list-clause-only
returns-in_err-list-clause-only c =
    let p = err_from_is_err_and c.from_residual.result c.from_residual.ensures.1 in
    rw (p.1, p.2) (λ x j q g. let h = some_hand c.args.tokens.now c.args.at (yes_by _ c.is_word.ensures c.if-is_word.true) x j q g in (rw c.after.ensures at c.in_err-list.ensures.only) x h.0 h.2 h.3)

pub returns-in-Err-clause-only : goal.returns-in-Err-clause-only
returns-in-Err-clause-only c =
    rw c.dropping.ensures (λ x j q g. let h = some_hand c.args.tokens.now c.args.at (yes_by _ c.is_word.ensures c.if-is_word.true) x j q g in let s = (rw c.after.ensures at c.in_ok-list.ensures.only) x h.0 h.2 h.3 in absurd (c.in-Err.ensures.none (subst (λ z. IsSign c.args.tokens.now z (codes ";")) s h.3)))

pub returns-in-Ok-clause-only : goal.returns-in-Ok-clause-only
returns-in-Ok-clause-only c = λ x j q g. let h = some_hand c.args.tokens.now c.args.at (yes_by _ c.is_word.ensures c.if-is_word.true) x j q g in let s = (rw c.after.ensures at c.in_ok-list.ensures.only) x h.0 h.2 h.3 in omega (arith, s, h.4, c.in-Ok.ensures.ok.1)

pub returns-else-is_word-clause-only : goal.returns-else-is_word-clause-only
returns-else-is_word-clause-only c = λ x j q g. no_hand c.args.tokens.now c.args.at (no_by _ c.is_word.ensures c.if-is_word.false) x j q

pub after-requires : goal.after-requires
after-requires c = kind_within _ _ _ (yes_by _ c.is_word.ensures c.if-is_word.true)
