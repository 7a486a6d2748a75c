use Rattle.std.proofs.Common.{ℕ, List, ◌↔◌, ◌⊎◌, inl, inr, subst}
use Rattle.std.proofs.lemmas.List.{take_all}
use Rattle.vlog_tree_runs.specs.Places.{Among}
use Rattle.elab_step_flow.proofs.Adding.{added_next}
use Rattle.elab_step_flow.proofs.sets.add_each.Goals as goal

pub loop-place-init : goal.loop-place-init
loop-place-init c = λ i. (λ h. inl h, λ h. elim h [ inl f ↦ f | inr f ↦ absurd f ])

pub loop-place-preserved : goal.loop-place-preserved
loop-place-preserved c =
    added_next c.args.all.now.items c.loop-place.all.items c.add_place.new.all.items c.args.places.now c.loop-place.place-index c.loop-place-test.true c.loop-place.invariant c.in_ok-add_place.ensures

pub returns : goal.returns
returns c =
    subst (λ (xs : List ℕ). (i : ℕ) → Among c.loop-place.all.items i ↔ (Among c.args.all.now.items i ⊎ Among xs i)) (take_all c.loop-place.place-index c.args.places.now c.loop-place-test.false) c.loop-place.invariant
