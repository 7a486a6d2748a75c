use Rattle.std.proofs.Common.{◌++◌, ◌<◌, ◌∷◌, [], true, length, get_or, arith, ap, ◌∙◌}
use Rattle.std.specs.Prelude.{if◌then◌else◌}
use Rattle.std.proofs.lemmas.List.{get_or_default}
use Rattle.elab_step.proofs.Ordering.{contains_at, cut_at, unflagged_next}
use Rattle.elab_step.proofs.graph.unflagged.Goals as goal

pub bounds-flags-place : goal.bounds-flags-place
bounds-flags-place c = c.requires _ (contains_at c.args.places.now c.loop-place.place-index 0 (omega arith))

pub loop-place-preserved : goal.loop-place-preserved
loop-place-preserved c =
    let ts = c.args.flags.now in
    let vs = c.args.places.now in
    let i = c.loop-place.place-index in
    let lt : i < length vs = omega arith in
    let v = get_or vs i 0 in
    let within : v < length ts = c.requires v (contains_at vs i 0 lt) in
    unflagged_next ts vs i v c.loop-place.all.items c.add_unflagged.new.all.items _ (cut_at vs i 0 lt) (c.in_ok-add_unflagged.ensures ∙ ap (λ b. c.loop-place.all.items ++ (if b then [] else v ∷ [])) (get_or_default ts v _ true within)) c.loop-place.invariant
