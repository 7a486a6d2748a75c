use Rattle.std.proofs.Common.{◌++◌, map, refl, ap, ◌∙◌}
use Rattle.std.specs.List.{flat_map}
use Rattle.elab_flat_drivers.specs.Parts.{part_meant}
use Rattle.elab_flat_drivers.specs.Pieces.{piece_meant}
use Rattle.elab_flat_drivers.proofs.Growing.{ended}
use Rattle.test_judges.specs.Driving.{piece_parts}
use Rattle.test_judges.proofs.Listing.{pieces_parts}
use Rattle.test_judges.proofs.parts.add_body.Goals as goal

pub returns : goal.returns
returns c =
    ended (λ xs. flat_map piece_parts (map piece_meant xs)) c.deref-piece-items.result.now c.loop-piece.piece-index (map part_meant c.loop-piece.all.items) (map part_meant c.args.all.now.items) (flat_map piece_parts (map piece_meant c.deref-piece-items.result.now)) refl c.loop-piece-test.false c.loop-piece.invariant
    ∙ ap (λ z. map part_meant c.args.all.now.items ++ z)
    (ap (λ xs. flat_map piece_parts (map piece_meant xs)) c.deref-piece-items.ensures.value ∙ (ap (flat_map piece_parts) c.in_ok-pieces.ensures ∙ pieces_parts c.args.body.now))
