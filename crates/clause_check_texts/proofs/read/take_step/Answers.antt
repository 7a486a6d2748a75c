use Rattle.std.proofs.Common.{◌≡◌, ◌↔◌, List, [], true, subst}
use Rattle.std.specs.Prelude.{Option, MatchOption}
use Rattle.clause_check.specs.declared.literal.Lit.{Lit}
use Rattle.clause_check.specs.declared.formula.Step.{Step}
use Rattle.clause_check_texts.specs.Steps.{Follows}
use Rattle.clause_check_texts.proofs.ReadLemmas.{come_in_range, come_rising, empty_is}
use Rattle.clause_check_texts.proofs.read.take_step.Goals as goal

pub step_of-requires-clause-in_range : goal.step_of-requires-clause-in_range
step_of-requires-clause-in_range c = come_in_range c.args.cnf.now c.requires.come.0 c.args.past.now.ids.items c.args.past.now.steps.items c.requires.come.1

pub step_of-requires-clause-rising : goal.step_of-requires-clause-rising
step_of-requires-clause-rising c = come_rising c.args.cnf.now c.requires.come.0 c.args.past.now.ids.items c.args.past.now.steps.items c.requires.come.1

pub returns-clause-step : goal.returns-clause-step
returns-clause-step c =
    let Is : Step → Type 0 = λ s. Follows c.args.cnf.now c.args.past.now.ids.items c.args.past.now.steps.items c.args.addition.now.lits.items c.args.addition.now.hints.items s in
    let follows = subst (λ (o : Option Step). MatchOption o ((s : Step) → Is s → ⊥) Is) c.in-Some.is c.in_ok-step.ensures.step in
    let closes = subst (λ (xs : List Lit). (c.is_empty-closed.result ≡ true) ↔ (xs ≡ [])) c.lits.ensures.lits (empty_is c.lits.result.now c.is_empty-closed.result c.is_empty-closed.ensures) in
    (c.in-Some.step, follows, c.in_ok-keep.ensures.ids, c.in_ok-keep.ensures.steps, closes)
