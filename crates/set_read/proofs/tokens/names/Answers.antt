use Rattle.std.proofs.Common.{arith, sym, subst, ap, ◌∙◌, ◌≡◌, ◌<◌, true, [], ◌∷◌, ◌++◌}
use Rattle.vlog_read_expr.proofs.SignTests.{yes_by, no_by}
use Rattle.vlog_read_spelling.proofs.Tokens.{kind_within}
use Rattle.std.proofs.lemmas.Result.{err_from_is_err_and}
use Rattle.set_read.proofs.Sequences.{separated_one, separated_more}
use Rattle.vlog_tree.specs.Lists.{Comma, Separated, highest}
use Rattle.vlog_tree.specs.Spelling.{IsNamed}
use Rattle.set_read.specs.Answers.{Semicolon, flat}
use Rattle.set_read.proofs.Steps.{comma_apart, none_high, passes, list_begins, first_fails, list_grows, list_ends, list_fails}
use Rattle.set_read.proofs.tokens.names.Goals as goal

pub loop-alloc-init : goal.loop-alloc-init
loop-alloc-init c = let q : c.push.new.self ≡ c.in_ok-first.first ∷ [] = c.in_ok-push.ensures.ok ∙ ap (λ z. z ++ c.in_ok-first.first ∷ []) c.new-list.ensures in (subst (λ z. Separated (Comma c.args.tokens.now) (IsNamed true c.args.tokens.now) c.args.at z c.in_ok-first.end) (sym q) (separated_one (IsNamed true c.args.tokens.now) (Comma c.args.tokens.now) c.args.at c.in_ok-first.end c.in_ok-first.first c.in_ok-first.ensures.ok.0), omega (arith, c.in_ok-first.ensures.ok.1), list_begins flat (Comma c.args.tokens.now) (IsNamed true c.args.tokens.now) (Semicolon c.args.tokens.now) c.args.at _ (λ x k p s. c.in_ok-first.ensures.only x k p tt))

pub after-requires : goal.after-requires
after-requires c = kind_within _ _ _ (yes_by _ c.is_sign.ensures c.loop-alloc-test.true)

pub loop-alloc-smaller : goal.loop-alloc-smaller
loop-alloc-smaller c = omega (arith, c.in_ok-more.ensures.ok.1, c.after.ensures, kind_within _ _ _ (yes_by _ c.is_sign.ensures c.loop-alloc-test.true))

pub loop-alloc-preserved : goal.loop-alloc-preserved
loop-alloc-preserved c = (subst (λ z. Separated (Comma c.args.tokens.now) (IsNamed true c.args.tokens.now) c.args.at z c.in_ok-more.next) (sym c.in_ok-push-2.ensures.ok) (separated_more (IsNamed true c.args.tokens.now) (Comma c.args.tokens.now) _ c.args.at _ c.in_ok-more.next c.in_ok-more.more c.loop-alloc.invariant.0 (yes_by _ c.is_sign.ensures c.loop-alloc-test.true) (rw c.after.ensures at c.in_ok-more.ensures.ok.0)), omega (arith, c.loop-alloc.invariant.1, c.after.ensures, c.in_ok-more.ensures.ok.1), list_grows flat (Comma c.args.tokens.now) (IsNamed true c.args.tokens.now) (Semicolon c.args.tokens.now) (comma_apart c.args.tokens.now) c.args.at _ c.loop-alloc.invariant.2 _ (yes_by _ c.is_sign.ensures c.loop-alloc-test.true) (λ x k p s. (rw c.after.ensures at c.in_ok-more.ensures.only) x k p tt))

pub returns-clause-only : goal.returns-clause-only
returns-clause-only c = list_ends flat (Comma c.args.tokens.now) (IsNamed true c.args.tokens.now) (Semicolon c.args.tokens.now) (comma_apart c.args.tokens.now) c.args.at _ c.loop-alloc.invariant.2 (no_by _ c.is_sign.ensures c.loop-alloc-test.false)

pub returns-in_err-first-clause-only : goal.returns-in_err-first-clause-only
returns-in_err-first-clause-only c =
    let p = err_from_is_err_and c.from_residual.result c.from_residual.ensures.1 in
    rw (p.1, p.2) (λ ys j s g. passes (0 < highest flat ys) (0 < 0) (λ h. omega (arith, h, none_high ys)) _ (first_fails flat (Comma c.args.tokens.now) (IsNamed true c.args.tokens.now) (Semicolon c.args.tokens.now) c.args.at 0 _ (λ x k p s. c.in_err-first.ensures.only x k p tt) ys j s g))

pub returns-in_err-more-clause-only : goal.returns-in_err-more-clause-only
returns-in_err-more-clause-only c =
    let p = err_from_is_err_and c.from_residual-in_err-more.result c.from_residual-in_err-more.ensures.1 in
    rw (p.1, p.2) (λ ys j s g. passes (0 < highest flat ys) (0 < 0) (λ h. omega (arith, h, none_high ys)) _ (list_fails flat (Comma c.args.tokens.now) (IsNamed true c.args.tokens.now) (Semicolon c.args.tokens.now) (comma_apart c.args.tokens.now) c.args.at _ c.loop-alloc.invariant.2 0 (yes_by _ c.is_sign.ensures c.loop-alloc-test.true) _ (λ x k p s. (rw c.after.ensures at c.in_err-more.ensures.only) x k p tt) ys j s g))
