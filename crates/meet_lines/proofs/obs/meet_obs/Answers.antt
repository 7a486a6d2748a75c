use Rattle.std.proofs.Common.{◌∙◌, ap, arith, rules, subst, sym}
use Rattle.set_tree.specs.declared.set.Set.{Set}
use Rattle.meet_lines.specs.Goals.{IsGoalOf}
use Rattle.meet_lines.specs.Lines.{SpeaksOf}
use Rattle.meet_lines.specs.Named.{meet_name}
use Rattle.meet_lines.proofs.Finding.{all_named, goal_speaks, name_more, turn}
use Rattle.meet_lines.proofs.obs.meet_obs.Goals as goal

pub meet_name-requires : goal.meet_name-requires
meet_name-requires c =
    let b = c.args.bound.now in
    let t = turn (IsGoalOf b.design b.set) c.loop-goal.invariant.after _ _ c.in-Some.goal c.loop-goal.invariant.rest c.in-Some.ensures.steps.0 in
    subst (λ (z : Set). SpeaksOf z c.in-Some.goal.line) (sym (c.set-set.ensures.value ∙ c.set.ensures)) (goal_speaks b.design b.set t.one c.in-Some.goal t.here)

pub loop-goal-preserved : goal.loop-goal-preserved
loop-goal-preserved c =
    let b = c.args.bound.now in
    let line = c.in-Some.goal.line in
    let same = c.set-set.ensures.value ∙ c.set.ensures in
    name_more b.design b.set _ _ c.loop-goal.obs.items _ c.in-Some.goal _ c.loop-goal.invariant c.in-Some.ensures.steps.0
    (c.in_ok-name.ensures ∙ ap (λ (z : Set). meet_name z line) same) (search rules) c.in_ok-push.ensures.items

pub returns : goal.returns
returns c = all_named c.args.bound.now.design c.args.bound.now.set c.loop-goal.obs.items _ c.loop-goal.invariant (omega (arith, c.in-None.ensures.steps.0, c.loop-goal.goal-iterator.rest.ok.0))
