use Rattle.std.proofs.Common.{◌≡◌, ◌++◌, drop, map}
use Rattle.std.specs.List.{flat_map}
use Rattle.elab_flat_drivers.specs.Pieces.{piece_meant, actions, item_actions}
use Rattle.elab_flat_drivers.proofs.pieces.+pieces.Given as goal

abbrev pub invariant-add_stmts-loop-stmt : goal.invariant-add_stmts-loop-stmt
invariant-add_stmts-loop-stmt l = map piece_meant l.all.items ++ flat_map actions (drop l.stmt-index l.stmts) ≡ map piece_meant l.initial.all.items ++ flat_map actions l.stmts

abbrev pub invariant-add_items-loop-item : goal.invariant-add_items-loop-item
invariant-add_items-loop-item l = map piece_meant l.all.items ++ flat_map item_actions (drop l.item-index l.items) ≡ map piece_meant l.initial.all.items ++ flat_map item_actions l.items
