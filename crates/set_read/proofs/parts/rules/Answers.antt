use Rattle.std.proofs.Common.{arith, refl, sym, subst, ap}
use Rattle.vlog_read_spelling.proofs.Tokens.{kind_within}
use Rattle.std.proofs.lemmas.Result.{err_from_is_err_and}
use Rattle.set_read.proofs.Sequences.{sequence_more, highest_more}
use Rattle.vlog_tree.specs.Lists.{Sequence, highest}
use Rattle.set_tree.specs.Spelling.{SpellsRule}
use Rattle.set_read.specs.Answers.{NoRule}
use Rattle.set_read.specs.Heights.{rule_height}
use Rattle.set_read.proofs.Steps.{if_none, begins, grows, ends, fails}
use Rattle.set_read.proofs.parts.rules.Goals as goal

pub loop-kind-init : goal.loop-kind-init
loop-kind-init c = (subst (λ z. Sequence (SpellsRule c.args.tokens.now) c.args.at z c.args.at) (sym c.new-list.ensures) refl, omega (arith, ap (highest rule_height) c.new-list.ensures), omega arith, begins rule_height (SpellsRule c.args.tokens.now) (NoRule c.args.tokens.now) c.args.at)

pub loop-kind-preserved : goal.loop-kind-preserved
loop-kind-preserved c = (subst (λ z. Sequence (SpellsRule c.args.tokens.now) c.args.at z c.in_ok-more.next) (sym c.in_ok-push.ensures.ok) (sequence_more (SpellsRule c.args.tokens.now) c.loop-kind.list c.args.at c.loop-kind.end c.in_ok-more.next c.in_ok-more.more c.loop-kind.invariant.0 c.in_ok-more.ensures.spelt), omega (arith, ap (highest rule_height) c.in_ok-push.ensures.ok, highest_more rule_height c.loop-kind.list c.in_ok-more.more, c.in_ok-more.ensures.low, c.loop-kind.invariant.1), omega (arith, c.loop-kind.invariant.2, c.in_ok-more.ensures.past), grows rule_height (SpellsRule c.args.tokens.now) (NoRule c.args.tokens.now) c.args.at _ _ c.loop-kind.invariant.3 (λ z. z _ c.in-Some.ensures.some) (λ x k p. c.in_ok-more.ensures.only x k p tt))

pub loop-kind-smaller : goal.loop-kind-smaller
loop-kind-smaller c = omega (arith, c.in_ok-more.ensures.past, kind_within _ _ _ c.in-Some.ensures.some)

pub returns-in_err-more-clause-only : goal.returns-in_err-more-clause-only
returns-in_err-more-clause-only c =
    let p = err_from_is_err_and c.from_residual.result c.from_residual.ensures.1 in
    rw (p.1, p.2) (fails rule_height (SpellsRule c.args.tokens.now) (NoRule c.args.tokens.now) c.args.at _ 499 c.loop-kind.invariant.3 (λ z. z _ c.in-Some.ensures.some) _ (λ x k p. c.in_err-more.ensures.only x k p tt))

pub returns-clause-only : goal.returns-clause-only
returns-clause-only c = ends rule_height (SpellsRule c.args.tokens.now) (NoRule c.args.tokens.now) c.args.at _ c.loop-kind.invariant.3 (λ x k p. if_none c.kind_of_rule.result c.kind_of_rule.ensures.none c.in_default.not-Some x.kind p.1)
