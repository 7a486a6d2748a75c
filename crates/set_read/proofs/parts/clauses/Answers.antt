use Rattle.std.proofs.Common.{arith, refl, sym, subst, ap, true}
use Rattle.vlog_read_expr.proofs.SignTests.{yes_by, no_by}
use Rattle.vlog_read_spelling.proofs.Tokens.{kind_within}
use Rattle.std.proofs.lemmas.Result.{err_from_is_err_and}
use Rattle.set_read.proofs.Sequences.{sequence_more, highest_more}
use Rattle.vlog_tree.specs.Lists.{Sequence, highest}
use Rattle.vlog_tree.specs.Spelling.{Spells, height}
use Rattle.set_tree.specs.Spelling.{Clause}
use Rattle.set_read.specs.Answers.{NoWord}
use Rattle.set_read.proofs.Steps.{begins, grows, ends, fails}
use Rattle.set_read.proofs.parts.clauses.Goals as goal

pub loop-alloc-init : goal.loop-alloc-init
loop-alloc-init c = (subst (λ z. Sequence (Clause c.args.tokens.now c.args.keyword.now (Spells true c.args.tokens.now)) c.args.at z c.args.at) (sym c.new-list.ensures) refl, omega (arith, ap (highest height) c.new-list.ensures), omega arith, begins height (Clause c.args.tokens.now c.args.keyword.now (Spells true c.args.tokens.now)) (NoWord c.args.keyword.now c.args.tokens.now) c.args.at)

pub loop-alloc-preserved : goal.loop-alloc-preserved
loop-alloc-preserved c = (subst (λ z. Sequence (Clause c.args.tokens.now c.args.keyword.now (Spells true c.args.tokens.now)) c.args.at z c.in_ok-more.next) (sym c.in_ok-push.ensures.ok) (sequence_more (Clause c.args.tokens.now c.args.keyword.now (Spells true c.args.tokens.now)) c.loop-alloc.list c.args.at c.loop-alloc.end c.in_ok-more.next c.in_ok-more.more c.loop-alloc.invariant.0 c.in_ok-more.ensures.spelt), omega (arith, ap (highest height) c.in_ok-push.ensures.ok, highest_more height c.loop-alloc.list c.in_ok-more.more, c.in_ok-more.ensures.low, c.loop-alloc.invariant.1), omega (arith, c.loop-alloc.invariant.2, c.in_ok-more.ensures.past), grows height (Clause c.args.tokens.now c.args.keyword.now (Spells true c.args.tokens.now)) (NoWord c.args.keyword.now c.args.tokens.now) c.args.at _ _ c.loop-alloc.invariant.3 (λ z. z (yes_by _ c.is_word.ensures c.loop-alloc-test.true)) (λ x k p. c.in_ok-more.ensures.only x k p tt))

pub loop-alloc-smaller : goal.loop-alloc-smaller
loop-alloc-smaller c = omega (arith, c.in_ok-more.ensures.past, kind_within _ _ _ (yes_by _ c.is_word.ensures c.loop-alloc-test.true))

pub returns-in_err-more-clause-only : goal.returns-in_err-more-clause-only
returns-in_err-more-clause-only c =
    let p = err_from_is_err_and c.from_residual.result c.from_residual.ensures.1 in
    rw (p.1, p.2) (fails height (Clause c.args.tokens.now c.args.keyword.now (Spells true c.args.tokens.now)) (NoWord c.args.keyword.now c.args.tokens.now) c.args.at _ 498 c.loop-alloc.invariant.3 (λ z. z (yes_by _ c.is_word.ensures c.loop-alloc-test.true)) _ (λ x k p. c.in_err-more.ensures.only x k p tt))

pub returns-clause-only : goal.returns-clause-only
returns-clause-only c = ends height (Clause c.args.tokens.now c.args.keyword.now (Spells true c.args.tokens.now)) (NoWord c.args.keyword.now c.args.tokens.now) c.args.at _ c.loop-alloc.invariant.3 (λ x k p. no_by _ c.is_word.ensures c.loop-alloc-test.false p.1)
