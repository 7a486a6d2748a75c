use Rattle.std.proofs.Common.{arith, sym, subst, ap, ◌∙◌, ◌≡◌, true, [], ◌∷◌, ◌++◌}
use Rattle.vlog_read_expr.proofs.SignTests.{yes_by, no_by}
use Rattle.vlog_read_spelling.proofs.Tokens.{kind_within}
use Rattle.std.proofs.lemmas.Result.{err_from_is_err_and}
use Rattle.set_read.proofs.Sequences.{separated_one, separated_more, highest_more}
use Rattle.vlog_tree.specs.Lists.{Comma, Separated, highest}
use Rattle.vlog_tree.specs.Spelling.{Spells, height}
use Rattle.set_read.specs.Answers.{Semicolon}
use Rattle.set_read.proofs.Steps.{comma_apart, list_begins, first_fails, list_grows, list_ends, list_fails}
use Rattle.set_read.proofs.tokens.formulas.Goals as goal

pub loop-alloc-init : goal.loop-alloc-init
loop-alloc-init c = let q : c.push.new.self ≡ c.in_ok-first.first ∷ [] = c.in_ok-push.ensures.ok ∙ ap (λ z. z ++ c.in_ok-first.first ∷ []) c.new-list.ensures in (subst (λ z. Separated (Comma c.args.tokens.now) (Spells true c.args.tokens.now) c.args.at z c.in_ok-first.end) (sym q) (separated_one (Spells true c.args.tokens.now) (Comma c.args.tokens.now) c.args.at c.in_ok-first.end c.in_ok-first.first c.in_ok-first.ensures.spelt), omega (arith, ap (highest height) q, c.in_ok-first.ensures.low), omega (arith, c.in_ok-first.ensures.past.0), list_begins height (Comma c.args.tokens.now) (Spells true c.args.tokens.now) (Semicolon c.args.tokens.now) c.args.at _ (λ x k p s. c.in_ok-first.ensures.only x k p s))

pub after-requires : goal.after-requires
after-requires c = kind_within _ _ _ (yes_by _ c.is_sign.ensures c.loop-alloc-test.true)

pub loop-alloc-smaller : goal.loop-alloc-smaller
loop-alloc-smaller c = omega (arith, c.in_ok-more.ensures.past.0, c.after.ensures, kind_within _ _ _ (yes_by _ c.is_sign.ensures c.loop-alloc-test.true))

pub loop-alloc-preserved : goal.loop-alloc-preserved
loop-alloc-preserved c = (subst (λ z. Separated (Comma c.args.tokens.now) (Spells true c.args.tokens.now) c.args.at z c.in_ok-more.next) (sym c.in_ok-push-2.ensures.ok) (separated_more (Spells true c.args.tokens.now) (Comma c.args.tokens.now) _ c.args.at _ c.in_ok-more.next c.in_ok-more.more c.loop-alloc.invariant.0 (yes_by _ c.is_sign.ensures c.loop-alloc-test.true) (rw c.after.ensures at c.in_ok-more.ensures.spelt)), omega (arith, ap (highest height) c.in_ok-push-2.ensures.ok, highest_more height c.loop-alloc.list c.in_ok-more.more, c.in_ok-more.ensures.low, c.loop-alloc.invariant.1), omega (arith, c.loop-alloc.invariant.2, c.after.ensures, c.in_ok-more.ensures.past.0), list_grows height (Comma c.args.tokens.now) (Spells true c.args.tokens.now) (Semicolon c.args.tokens.now) (comma_apart c.args.tokens.now) c.args.at _ c.loop-alloc.invariant.3 _ (yes_by _ c.is_sign.ensures c.loop-alloc-test.true) (λ x k p s. (rw c.after.ensures at c.in_ok-more.ensures.only) x k p s))

pub returns-clause-only : goal.returns-clause-only
returns-clause-only c = list_ends height (Comma c.args.tokens.now) (Spells true c.args.tokens.now) (Semicolon c.args.tokens.now) (comma_apart c.args.tokens.now) c.args.at _ c.loop-alloc.invariant.3 (no_by _ c.is_sign.ensures c.loop-alloc-test.false)

pub returns-in_err-first-clause-only : goal.returns-in_err-first-clause-only
returns-in_err-first-clause-only c =
    let p = err_from_is_err_and c.from_residual.result c.from_residual.ensures.1 in
    rw (p.1, p.2) (first_fails height (Comma c.args.tokens.now) (Spells true c.args.tokens.now) (Semicolon c.args.tokens.now) c.args.at 498 _ (λ x k p s. c.in_err-first.ensures.only x k p s))

pub returns-in_err-more-clause-only : goal.returns-in_err-more-clause-only
returns-in_err-more-clause-only c =
    let p = err_from_is_err_and c.from_residual-in_err-more.result c.from_residual-in_err-more.ensures.1 in
    rw (p.1, p.2) (list_fails height (Comma c.args.tokens.now) (Spells true c.args.tokens.now) (Semicolon c.args.tokens.now) (comma_apart c.args.tokens.now) c.args.at _ c.loop-alloc.invariant.3 498 (yes_by _ c.is_sign.ensures c.loop-alloc-test.true) _ (λ x k p s. (rw c.after.ensures at c.in_err-more.ensures.only) x k p s))
