use Rattle.std.proofs.Common.{◌≡◌, ◌++◌, drop, map}
use Rattle.std.specs.List.{flat_map}
use Rattle.elab_flat_drivers.specs.Parts.{part_meant}
use Rattle.elab_flat_drivers.specs.Pieces.{piece_meant}
use Rattle.test_judges.specs.Driving.{piece_parts}
use Rattle.test_judges.proofs.parts.add_body.Given as goal

abbrev pub invariant-loop-piece : goal.invariant-loop-piece
invariant-loop-piece l = map part_meant l.all.items ++ flat_map piece_parts (map piece_meant (drop l.piece-index l.piece-items)) ≡ map part_meant l.initial.all.items ++ flat_map piece_parts (map piece_meant l.piece-items)
