use Rattle.std.proofs.Common.{◌≡◌, ◌<◌, ◌≤◌, List, get_or, length, ap, sym, ◌∙◌, subst, arith}
use Rattle.std.specs.List.{All}
use Rattle.set_tree.specs.declared.set.Set.{Set}
use Rattle.unroll_binding.specs.Binding.{Fits}
use Rattle.twin_tests.proofs.Handing.{get_again}
use Rattle.unroll.proofs.Rowing.{design_is}
use Rattle.meet_lines.specs.declared.line.MeetLine.{MeetLine}
use Rattle.meet_lines.specs.declared.line.MeetLine.TheVariants.{Reset}
use Rattle.meet_lines.specs.Lines.{SpeaksOf, meet_lines}
use Rattle.meet_lines.specs.Goals.{IsGoalOf}
use Rattle.meet_lines.specs.Segments.{AreSegments}
use Rattle.meet_lines.proofs.Listing.{goals_few, lines_speak}
use Rattle.meet_lines.proofs.Obtaining.{goals_begin, goals_step}
use Rattle.meet_lines.proofs.goals.all_goals.Goals as goal

pub goal_of-requires-clause-line : goal.goal_of-requires-clause-line
goal_of-requires-clause-line c =
    let set = c.set-set.result.now in
    let items = c.deref-line-items.result.now in
    let lt : c.loop-line.line-index < length items = omega arith in
    let same = c.set-set.ensures.value ∙ c.set.ensures in
    let listed : items ≡ meet_lines set = c.deref-line-items.ensures.value ∙ (c.in_ok-lines.ensures ∙ ap (λ (z : Set). meet_lines z) (c.set-2.ensures ∙ sym same)) in
    let all : All (SpeaksOf set) items = subst (λ (ls : List MeetLine). All (SpeaksOf set) ls) (sym listed) (lines_speak set) in
    all c.loop-line.line-index Reset lt

pub loop-line-init : goal.loop-line-init
loop-line-init c =
    let b = c.args.bound.now in
    let design = design_is b.design c.design.result.now c.design.ensures.value c.dag-fit.ensures.design in
    goals_begin b.design b.set _ c.segments_of.new.dag c.in_ok-segments.segments _ design c.new-dag.ensures c.in_ok-segments.ensures.frees c.in_ok-segments.ensures.segments c.in_ok-goals.ensures.items

pub loop-line-preserved : goal.loop-line-preserved
loop-line-preserved c =
    let b = c.args.bound.now in
    let same = c.set-set.ensures.value ∙ c.set.ensures in
    let items = c.deref-line-items.result.now in
    let i = c.loop-line.line-index in
    let lt : i < length items = omega arith in
    let line = get_or items i Reset in
    let design = design_is b.design c.design.result.now c.design.ensures.value c.dag-fit.ensures.design in
    let segments = c.in_ok-segments.segments in
    let fits = subst (λ (z : Set). Fits b.design z) (sym same) c.design.ensures.fits in
    let are = subst (λ (z : Set). AreSegments b.design z c.loop-line.dag segments) (sym same) c.loop-line.invariant.held in
    let here = subst (λ (z : Set). IsGoalOf b.design z line c.in_ok-goal.goal) same (c.in_ok-goal.ensures.goal b.design design fits are) in
    goals_step b.design b.set c.loop-line.dag c.goal_of.new.dag segments items c.loop-line.goals.items c.push.new.self.items i line c.in_ok-goal.goal c.in_ok-goal.ensures.keeps lt (get_again items i Reset lt) c.in_ok-push.ensures.items here c.loop-line.invariant

pub returns-clause-few : goal.returns-clause-few
returns-clause-few c =
    let b = c.args.bound.now in
    let items = c.deref-line-items.result.now in
    let past : length items ≤ c.loop-line.line-index = omega arith in
    let listed : items ≡ meet_lines b.set = c.deref-line-items.ensures.value ∙ (c.in_ok-lines.ensures ∙ ap (λ (z : Set). meet_lines z) c.set-2.ensures) in
    let most : length b.set.operations ≤ 64 = subst (λ (z : Set). length z.operations ≤ 64) c.set.ensures c.set-set.ensures.formed.bounds.operations.1 in
    goals_few (IsGoalOf b.design b.set) b.set c.loop-line.line-index items c.loop-line.goals.items most past listed c.loop-line.invariant.each
