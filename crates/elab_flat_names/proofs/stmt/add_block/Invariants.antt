use Rattle.std.proofs.Common.{◌≡◌, ◌++◌, drop, map}
use Rattle.std.specs.List.{flat_map}
use Rattle.elab_flat_drivers.specs.Pieces.{piece_meant}
use Rattle.elab_flat_names.specs.Exprs.{expr_meant, action_exprs}
use Rattle.elab_flat_names.proofs.stmt.add_block.Given as goal

abbrev pub invariant-loop-piece : goal.invariant-loop-piece
invariant-loop-piece l = map expr_meant l.all.items ++ flat_map action_exprs (map piece_meant (drop l.piece-index l.piece-items)) ≡ map expr_meant l.initial.all.items ++ flat_map action_exprs (map piece_meant l.piece-items)
