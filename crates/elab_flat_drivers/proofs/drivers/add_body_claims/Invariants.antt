use Rattle.std.proofs.Common.{◌≡◌, ◌++◌, drop, map}
use Rattle.std.specs.List.{flat_map}
use Rattle.elab_flat_drivers.specs.declared.names.Form.TheVariants as v
use Rattle.elab_flat_drivers.specs.Names.{action_lefts}
use Rattle.elab_flat_drivers.specs.Pieces.{piece_meant}
use Rattle.elab_flat_drivers.specs.Driving.{left_claims}
use Rattle.elab_flat_drivers.proofs.drivers.add_body_claims.Given as goal

abbrev pub invariant-loop-piece : goal.invariant-loop-piece
invariant-loop-piece l =
    l.claims.items ++ flat_map (left_claims l.signals) (flat_map (action_lefts v.Any) (map piece_meant (drop l.piece-index l.piece-items)))
    ≡ l.initial.claims.items ++ flat_map (left_claims l.signals) (flat_map (action_lefts v.Any) (map piece_meant l.piece-items))
