use Rattle.std.proofs.Common.{arith, refl, sym, subst, ap}
use Rattle.vlog_read_spelling.proofs.Tokens.{kind_within}
use Rattle.std.proofs.lemmas.Result.{err_from_is_err_and}
use Rattle.set_read.proofs.Sequences.{sequence_more, highest_more}
use Rattle.vlog_tree.specs.Lists.{Sequence, highest}
use Rattle.set_tree.specs.Spelling.{SpellsDeclaration}
use Rattle.set_read.specs.Answers.{NoRole}
use Rattle.set_read.specs.Heights.{declaration_height}
use Rattle.set_read.proofs.Steps.{if_none, begins, grows, ends, fails}
use Rattle.set_read.proofs.parts.declarations.Goals as goal

pub loop-role-init : goal.loop-role-init
loop-role-init c = (subst (λ z. Sequence (SpellsDeclaration c.args.tokens.now) c.args.at z c.args.at) (sym c.new-list.ensures) refl, omega (arith, ap (highest declaration_height) c.new-list.ensures), omega arith, begins declaration_height (SpellsDeclaration c.args.tokens.now) (NoRole c.args.tokens.now) c.args.at)

pub loop-role-preserved : goal.loop-role-preserved
loop-role-preserved c = (subst (λ z. Sequence (SpellsDeclaration c.args.tokens.now) c.args.at z c.in_ok-more.next) (sym c.in_ok-push.ensures.ok) (sequence_more (SpellsDeclaration c.args.tokens.now) c.loop-role.list c.args.at c.loop-role.end c.in_ok-more.next c.in_ok-more.more c.loop-role.invariant.0 c.in_ok-more.ensures.spelt), omega (arith, ap (highest declaration_height) c.in_ok-push.ensures.ok, highest_more declaration_height c.loop-role.list c.in_ok-more.more, c.in_ok-more.ensures.low, c.loop-role.invariant.1), omega (arith, c.loop-role.invariant.2, c.in_ok-more.ensures.past), grows declaration_height (SpellsDeclaration c.args.tokens.now) (NoRole c.args.tokens.now) c.args.at _ _ c.loop-role.invariant.3 (λ z. z _ c.in-Some.ensures.some) (λ x k p. c.in_ok-more.ensures.only x k p tt))

pub loop-role-smaller : goal.loop-role-smaller
loop-role-smaller c = omega (arith, c.in_ok-more.ensures.past, kind_within _ _ _ c.in-Some.ensures.some)

pub returns-in_err-more-clause-only : goal.returns-in_err-more-clause-only
returns-in_err-more-clause-only c =
    let p = err_from_is_err_and c.from_residual.result c.from_residual.ensures.1 in
    rw (p.1, p.2) (fails declaration_height (SpellsDeclaration c.args.tokens.now) (NoRole c.args.tokens.now) c.args.at _ 499 c.loop-role.invariant.3 (λ z. z _ c.in-Some.ensures.some) _ (λ x k p. c.in_err-more.ensures.only x k p tt))

pub returns-clause-only : goal.returns-clause-only
returns-clause-only c = ends declaration_height (SpellsDeclaration c.args.tokens.now) (NoRole c.args.tokens.now) c.args.at _ c.loop-role.invariant.3 (λ x k p. if_none c.role_at.result c.role_at.ensures.none c.in_default.not-Some x.role p.4)
