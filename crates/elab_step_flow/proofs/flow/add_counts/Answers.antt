use Rattle.std.proofs.Common.{◌↔◌, ◌⊎◌, List, ℕ, inl, inr, subst}
use Rattle.std.proofs.lemmas.List.{take_all}
use Rattle.vlog_tree_runs.specs.Places.{Among}
use Rattle.elab_flat_drivers.proofs.Marking.{among_at}
use Rattle.elab_step_flow.specs.Sets.{CountsIn, tables}
use Rattle.elab_step_flow.proofs.Counting.{or_more, counts_none, counts_next}
use Rattle.elab_step_flow.proofs.flow.add_counts.Goals as goal

pub add_count-requires-clause-within : goal.add_count-requires-clause-within
add_count-requires-clause-within c = c.requires.within _ (among_at c.args.read.now c.loop-place.place-index 0 c.loop-place-test.true)

pub loop-place-init : goal.loop-place-init
loop-place-init c = λ z. (λ h. inl h, λ h. elim h [ inl f ↦ f | inr f ↦ absurd (counts_none (tables c.args.flow.now) z f) ])

pub loop-place-preserved : goal.loop-place-preserved
loop-place-preserved c = λ z.
    or_more (c.in_ok-add_count.ensures z) (c.loop-place.invariant z) (counts_next (tables c.args.flow.now) c.args.read.now c.loop-place.place-index 0 z c.loop-place-test.true)

pub returns : goal.returns
returns c = subst (λ (xs : List ℕ). (z : ℕ) → Among c.loop-place.all.items z ↔ (Among c.args.all.now.items z ⊎ CountsIn xs (tables c.args.flow.now) z)) (take_all c.loop-place.place-index c.args.read.now c.loop-place-test.false) c.loop-place.invariant
