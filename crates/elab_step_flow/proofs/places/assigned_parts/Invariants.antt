use Rattle.std.proofs.Common.{◌≡◌, ◌++◌, drop, map}
use Rattle.std.specs.List.{flat_map}
use Rattle.elab_flat_drivers.specs.Parts.{part_meant}
use Rattle.elab_flat_drivers.specs.Pieces.{piece_meant}
use Rattle.elab_step_flow.specs.Assigned.{assigned_by}
use Rattle.elab_step_flow.proofs.places.assigned_parts.Given as goal

abbrev pub invariant-loop-piece : goal.invariant-loop-piece
invariant-loop-piece l = map part_meant l.all.items ++ flat_map assigned_by (map piece_meant (drop l.piece-index l.piece-items)) ≡ flat_map assigned_by (map piece_meant l.piece-items)
