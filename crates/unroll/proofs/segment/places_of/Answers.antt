use Rattle.std.proofs.Common.{◌≡◌, ◌∙◌, Some, ap, refl, sym, subst}
use Rattle.std.specs.Option.{IsSome}
use Rattle.set_tree.specs.declared.set.Set.{Set}
use Rattle.elab_step_design.specs.Designs.{Parts}
use Rattle.unroll_laws.proofs.Fitting.{name_there}
use Rattle.unroll.specs.Copies.{IsPlaceOf}
use Rattle.unroll.proofs.Leaving.{item_among}
use Rattle.unroll.proofs.Rowing.{place_found, zip_more}
use Rattle.unroll.proofs.segment.places_of.Goals as goal

pub unwrap-place-requires : goal.unwrap-place-requires
unwrap-place-requires c =
    let b = c.args.bound.now in
    let x = c.name-item.result in
    let listed = c.as_slice-name-items.ensures ∙ ap (λ (z : Set). z.names) (c.set-2.ensures.value ∙ c.set.ensures) in
    let m = item_among c.as_slice-name-items.result.now b.set.names c.loop-name.name-index x listed c.loop-name-test.true c.name-item.is in
    let there = place_found b.design x x.width c.nets-nets.result.now c.bytes.result.now c.place_of.result (name_there b.design b.set c.design-design.ensures.fits x m) c.place_of.ensures (c.nets-nets.ensures ∙ ap (λ (d : Parts). d.nets) c.design-design.ensures.value) c.bytes.ensures in
    subst IsSome (sym there.1) refl

pub loop-name-preserved : goal.loop-name-preserved
loop-name-preserved c =
    let b = c.args.bound.now in
    let x = c.name-item.result in
    let xs = c.as_slice-name-items.result.now in
    let i = c.loop-name.name-index in
    let listed = c.as_slice-name-items.ensures ∙ ap (λ (z : Set). z.names) (c.set-2.ensures.value ∙ c.set.ensures) in
    let m = item_among xs b.set.names i x listed c.loop-name-test.true c.name-item.is in
    let there = place_found b.design x x.width c.nets-nets.result.now c.bytes.result.now c.place_of.result (name_there b.design b.set c.design-design.ensures.fits x m) c.place_of.ensures (c.nets-nets.ensures ∙ ap (λ (d : Parts). d.nets) c.design-design.ensures.value) c.bytes.ensures in
    let same : there.0 ≡ c.unwrap-place.result = let some : Some there.0 ≡ Some c.unwrap-place.result = sym there.1 ∙ c.unwrap-place.ensures in cc in
    zip_more (IsPlaceOf b.design) xs i x c.loop-name.places.items c.push.new.self.items c.unwrap-place.result c.loop-name-test.true c.name-item.is c.in_ok-push.ensures.items (subst (λ place. IsPlaceOf b.design x place) same there.2) c.loop-name.invariant
