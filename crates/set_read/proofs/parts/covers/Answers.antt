use Rattle.std.proofs.Common.{arith, refl, sym, subst, ◌<◌}
use Rattle.vlog_read_expr.proofs.SignTests.{yes_by, no_by}
use Rattle.vlog_read_spelling.proofs.Tokens.{kind_within}
use Rattle.std.proofs.lemmas.Result.{err_from_is_err_and}
use Rattle.std.specs.Prelude.{codes}
use Rattle.set_read.proofs.Sequences.{sequence_more}
use Rattle.vlog_tree.specs.Lists.{Sequence, highest}
use Rattle.set_tree.specs.Spelling.{SpellsCover}
use Rattle.set_read.specs.Answers.{NoWord, flat}
use Rattle.set_read.proofs.Steps.{none_high, passes, begins, grows, ends, fails}
use Rattle.set_read.proofs.parts.covers.Goals as goal

pub loop-alloc-init : goal.loop-alloc-init
loop-alloc-init c = (subst (λ z. Sequence (SpellsCover c.args.tokens.now) c.args.at z c.args.at) (sym c.new-list.ensures) refl, omega arith, begins flat (SpellsCover c.args.tokens.now) (NoWord (codes "cover") c.args.tokens.now) c.args.at)

pub loop-alloc-preserved : goal.loop-alloc-preserved
loop-alloc-preserved c = (subst (λ z. Sequence (SpellsCover c.args.tokens.now) c.args.at z c.in_ok-more.next) (sym c.in_ok-push.ensures.ok) (sequence_more (SpellsCover c.args.tokens.now) c.loop-alloc.list c.args.at c.loop-alloc.end c.in_ok-more.next c.in_ok-more.more c.loop-alloc.invariant.0 c.in_ok-more.ensures.spelt), omega (arith, c.loop-alloc.invariant.1, c.in_ok-more.ensures.past), grows flat (SpellsCover c.args.tokens.now) (NoWord (codes "cover") c.args.tokens.now) c.args.at _ _ c.loop-alloc.invariant.2 (λ z. z (yes_by _ c.is_word.ensures c.loop-alloc-test.true)) (λ x k p. c.in_ok-more.ensures.only x k p tt))

pub loop-alloc-smaller : goal.loop-alloc-smaller
loop-alloc-smaller c = omega (arith, c.in_ok-more.ensures.past, kind_within _ _ _ (yes_by _ c.is_word.ensures c.loop-alloc-test.true))

pub returns-in_err-more-clause-only : goal.returns-in_err-more-clause-only
returns-in_err-more-clause-only c =
    let p = err_from_is_err_and c.from_residual.result c.from_residual.ensures.1 in
    rw (p.1, p.2) (λ ys j s g. passes (0 < highest flat ys) (0 < 0) (λ h. omega (arith, h, none_high ys)) _ (fails flat (SpellsCover c.args.tokens.now) (NoWord (codes "cover") c.args.tokens.now) c.args.at _ 0 c.loop-alloc.invariant.2 (λ z. z (yes_by _ c.is_word.ensures c.loop-alloc-test.true)) _ (λ x k p. c.in_err-more.ensures.only x k p tt) ys j s g))

pub returns-clause-only : goal.returns-clause-only
returns-clause-only c = ends flat (SpellsCover c.args.tokens.now) (NoWord (codes "cover") c.args.tokens.now) c.args.at _ c.loop-alloc.invariant.2 (λ x k p. no_by _ c.is_word.ensures c.loop-alloc-test.false p.2)
