use Rattle.std.proofs.Common.{◌∙◌, true, false, arith, sym, subst}
use Rattle.set_tree.specs.declared.set.Set.{Set}
use Rattle.meet_lines.specs.Goals.{IsGoalOf}
use Rattle.meet_lines.specs.Lines.{SpeaksOf}
use Rattle.meet_lines.proofs.Finding.{find_more, found, goal_speaks, named_so, none_found, turn}
use Rattle.meet_lines.proofs.goals.one_goal.Goals as goal

pub has_name-requires : goal.has_name-requires
has_name-requires c =
    let b = c.args.bound.now in
    let t = turn (IsGoalOf b.design b.set) c.loop-goal.invariant.after _ _ c.in-Some.goal c.loop-goal.invariant.rest c.in-Some.ensures.steps.0 in
    subst (λ (z : Set). SpeaksOf z c.in-Some.goal.line) (sym (c.set-set.ensures.value ∙ c.set.ensures)) (goal_speaks b.design b.set t.one c.in-Some.goal t.here)

pub returns-then-branch-clause-ok : goal.returns-then-branch-clause-ok
returns-then-branch-clause-ok c =
    let b = c.args.bound.now in
    let named = named_so _ b.set _ c.args.name.now c.in-Some.goal.line _ true (c.set-set.ensures.value ∙ c.set.ensures) c.bytes.ensures c.in_ok-has_name.ensures c.if-branch.true in
    found b c.args.name.now _ _ _ c.in-Some.goal c.loop-goal.invariant c.in-Some.ensures.steps.0 named c.in_ok-only.ensures

pub loop-goal-preserved : goal.loop-goal-preserved
loop-goal-preserved c =
    let b = c.args.bound.now in
    let named = named_so _ b.set _ c.args.name.now c.in-Some.goal.line _ false (c.set-set.ensures.value ∙ c.set.ensures) c.bytes.ensures c.in_ok-has_name.ensures c.if-branch.false in
    find_more b.design b.set c.args.name.now _ _ c.in-Some.goal c.loop-goal.invariant c.in-Some.ensures.steps.0 named

pub returns-clause-err : goal.returns-clause-err
returns-clause-err c = none_found c.args.bound.now.design c.args.bound.now.set c.args.name.now _ c.loop-goal.invariant (omega (arith, c.in-None.ensures.steps.0, c.loop-goal.goal-iterator.rest.ok.0))
