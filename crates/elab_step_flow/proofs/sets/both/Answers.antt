use Rattle.std.proofs.Common.{◌↔◌, List, ℕ, subst}
use Rattle.std.proofs.lemmas.List.{take_all}
use Rattle.vlog_tree_runs.specs.Places.{Among}
use Rattle.elab_step_flow.proofs.Casing.{told_true, told_false}
use Rattle.elab_step_flow.proofs.Counting.{both_put, both_passed}
use Rattle.elab_step_flow.proofs.sets.both.Goals.{then-has+in_ok-push, else-has}
use Rattle.elab_step_flow.proofs.sets.both.Goals as goal

pub loop-place-preserved : goal.loop-place-preserved
loop-place-preserved c =
    let k = c.loop-place.place-index in
    let places = c.args.places.now in
    let rising = c.args.rising.now in
    elim c.if-has.branch [
      | then-has+in_ok-push w ↦ rw w.all-is (both_put rising places k c.loop-place.all.items w.push.new.self.items c.loop-place-test.true (told_true c.has.result _ _ w.if-has.true c.has.ensures) w.in_ok-push.ensures.items c.loop-place.invariant)
      | else-has w ↦ rw w.all-is (both_passed rising places k c.loop-place.all.items c.loop-place-test.true (told_false c.has.result _ _ w.if-has.false c.has.ensures) c.loop-place.invariant)
    ]

pub returns : goal.returns
returns c = subst (λ (xs : List ℕ). (i : ℕ) → Among c.loop-place.all.items i ↔ (Among xs i × Among c.args.rising.now i)) (take_all c.loop-place.place-index c.args.places.now c.loop-place-test.false) c.loop-place.invariant
