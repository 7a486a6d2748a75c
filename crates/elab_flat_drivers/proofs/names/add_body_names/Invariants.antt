use Rattle.std.proofs.Common.{◌≡◌, ◌++◌, drop, map}
use Rattle.std.specs.List.{flat_map}
use Rattle.elab_flat_scopes.specs.Borrowed.{name_meant}
use Rattle.elab_flat_drivers.specs.Pieces.{piece_meant}
use Rattle.elab_flat_drivers.specs.Names.{action_names}
use Rattle.elab_flat_drivers.proofs.names.add_body_names.Given as goal

abbrev pub invariant-loop-piece : goal.invariant-loop-piece
invariant-loop-piece l = map name_meant l.all.items ++ flat_map (action_names l.form) (map piece_meant (drop l.piece-index l.piece-items)) ≡ map name_meant l.initial.all.items ++ flat_map (action_names l.form) (map piece_meant l.piece-items)
