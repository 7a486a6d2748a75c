use Rattle.std.proofs.Common.{◌≡◌, ◌<◌, ◌∙◌, List, ℕ, length, map, subst, sym, ap}
use Rattle.std.specs.Prelude.{slice_index}
use Rattle.std.specs.List.{All}
use Rattle.unroll.proofs.Rowing.{design_is, places_below, rows_step}
use Rattle.unroll.proofs.rows.segment_nodes.Goals as goal

pub row_of-requires : goal.row_of-requires
row_of-requires c =
    let b = c.args.bound.now in
    let design = design_is b.design c.design.result.now c.design.ensures.value c.dag-fit.ensures.design in
    let below = places_below b.design design b.set c.design.ensures.fits b.set.names c.args.places.now (λ x m. m) c.requires.places in
    let count = c.in_ok-copies-2.ensures.copied.0.count in
    let same : length c.as_slice-in-loop-end.result.now ≡ length b.design.nodes = ap (λ (xs : List ℕ). length xs) c.as_slice-in-loop-end.ensures.value ∙ count in
    subst (λ n. All (λ place. place < n) c.args.places.now) (sym same) below

pub loop-end-preserved : goal.loop-end-preserved
loop-end-preserved c =
    let b = c.args.bound.now in
    let loop = c.loop-end in
    let design = design_is b.design c.design.result.now c.design.ensures.value c.dag-fit.ensures.design in
    let copies = c.in_ok-copies-2.copies.items in
    let row = c.in_ok-row.ensures ∙ ap (λ (xs : List ℕ). map (slice_index xs) c.args.places.now) c.as_slice-in-loop-end.ensures.value in
    rows_step b.design design b.set c.design.ensures.fits c.args.resets loop.end c.args.dag.now loop.dag c.cycle_nodes.new.dag loop.copies.items copies c.args.places.now loop.rows.items c.push.new.self.items c.in_ok-row.row c.requires.places c.in_ok-copies-2.ensures.grows c.in_ok-copies-2.ensures.frees c.in_ok-copies-2.ensures.copied row c.in_ok-push.ensures.items loop.invariant
