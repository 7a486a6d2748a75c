use Rattle.std.proofs.Common.{◌++◌, map, refl, ap, ◌∙◌}
use Rattle.std.specs.List.{flat_map}
use Rattle.elab_flat_scopes.specs.Borrowed.{name_meant}
use Rattle.elab_flat_drivers.specs.Names.{action_names}
use Rattle.elab_flat_drivers.specs.Pieces.{piece_meant}
use Rattle.elab_flat_drivers.proofs.Growing.{ended}
use Rattle.elab_flat_drivers.proofs.Naming.{actions_names}
use Rattle.elab_flat_drivers.proofs.names.add_body_names.Goals as goal

pub returns : goal.returns
returns c =
    ended (λ xs. flat_map (action_names c.args.form) (map piece_meant xs)) c.deref-piece-items.result.now c.loop-piece.piece-index (map name_meant c.loop-piece.all.items) (map name_meant c.args.all.now.items) (flat_map (action_names c.args.form) (map piece_meant c.deref-piece-items.result.now)) refl c.loop-piece-test.false c.loop-piece.invariant
    ∙ ap (λ z. map name_meant c.args.all.now.items ++ z)
    (ap (λ xs. flat_map (action_names c.args.form) (map piece_meant xs)) c.deref-piece-items.ensures.value ∙ (ap (flat_map (action_names c.args.form)) c.in_ok-pieces.ensures ∙ actions_names c.args.form c.args.body.now))
