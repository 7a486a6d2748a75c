use Rattle.std.proofs.Common.{◌++◌, map, refl, ap, ◌∙◌}
use Rattle.std.specs.List.{flat_map}
use Rattle.elab_flat_drivers.specs.Pieces.{piece_meant}
use Rattle.elab_flat_names.specs.Exprs.{expr_meant, action_exprs}
use Rattle.elab_flat_drivers.proofs.Growing.{ended}
use Rattle.elab_flat_names.proofs.stmt.add_block.Goals as goal

pub returns : goal.returns
returns c =
    ended (λ xs. flat_map action_exprs (map piece_meant xs)) c.deref-piece-items.result.now c.loop-piece.piece-index (map expr_meant c.loop-piece.all.items) (map expr_meant c.args.all.now.items) (flat_map action_exprs (map piece_meant c.deref-piece-items.result.now)) refl c.loop-piece-test.false c.loop-piece.invariant
    ∙ ap (λ z. map expr_meant c.args.all.now.items ++ z) (ap (λ xs. flat_map action_exprs (map piece_meant xs)) c.deref-piece-items.ensures.value ∙ ap (flat_map action_exprs) c.in_ok-pieces.ensures)
