use Rattle.std.proofs.Common.{◌++◌, ◌∷◌, [], get_or, append_assoc, sym, ap, ◌∙◌}
use Rattle.elab_flat_drivers.proofs.Marking.{among_at}
use Rattle.elab_step_flow.proofs.Counting.{or_more, opens_next, opened, not_opened}
use Rattle.elab_step_flow.proofs.flow.add_open.Goals.{then-is_open+in_ok-push, else-is_open}
use Rattle.elab_step_flow.proofs.flow.add_open.Goals as goal

pub is_open-requires : goal.is_open-requires
is_open-requires c = c.requires _ (among_at c.args.places.now c.loop-place.place-index 0 c.loop-place-test.true)

pub loop-place-preserved : goal.loop-place-preserved
loop-place-preserved c =
    let k = c.loop-place.place-index in
    let places = c.args.places.now in
    let place = get_or places k 0 in
    let old = c.args.all.now.items in
    let now = c.loop-place.all.items in
    let grows = c.loop-place.invariant.grows in
    elim c.if-is_open.branch [
      | then-is_open+in_ok-push w ↦ rw w.all-is (record {
        opens = λ i. or_more (opened (λ j. get_or c.args.words.now j 0) place now w.push.new.self.items (sym c.is_open.ensures ∙ w.if-is_open.true) w.in_ok-push.ensures.items i) (c.loop-place.invariant.opens i) (opens_next (λ j. get_or c.args.words.now j 0) places k 0 i c.loop-place-test.true);
        grows = (grows.0 ++ place ∷ [], w.in_ok-push.ensures.items ∙ (ap (λ z. z ++ place ∷ []) grows.1 ∙ append_assoc old grows.0 (place ∷ [])));
      })
      | else-is_open w ↦ rw w.all-is (record {
        opens = λ i. or_more (not_opened (λ j. get_or c.args.words.now j 0) place now (sym c.is_open.ensures ∙ w.if-is_open.false) i) (c.loop-place.invariant.opens i) (opens_next (λ j. get_or c.args.words.now j 0) places k 0 i c.loop-place-test.true);
        grows = grows;
      })
    ]
