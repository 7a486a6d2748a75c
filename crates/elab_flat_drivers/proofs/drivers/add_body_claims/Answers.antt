use Rattle.std.proofs.Common.{◌++◌, map, refl, ap, ◌∙◌}
use Rattle.std.specs.List.{flat_map}
use Rattle.elab_flat_drivers.specs.declared.names.Form.TheVariants as v
use Rattle.elab_flat_drivers.specs.Names.{action_lefts}
use Rattle.elab_flat_drivers.specs.Pieces.{piece_meant}
use Rattle.elab_flat_drivers.specs.Driving.{left_claims}
use Rattle.elab_flat_drivers.proofs.Growing.{ended}
use Rattle.elab_flat_drivers.proofs.Naming.{meant_at, action_left, only_left, actions_lefts}
use Rattle.elab_flat_drivers.proofs.drivers.add_body_claims.Goals as goal

pub add_left_claims-requires-clause-ready : goal.add_left_claims-requires-clause-ready
add_left_claims-requires-clause-ready c =
    c.requires.ready c.in-Some.left.now
    (action_left _ (piece_meant c.piece-item.result) c.in-Some.left.now c.args.body.now
    (meant_at piece_meant _ _ _ c.loop-piece.piece-index c.piece-item.result c.loop-piece-test.true c.piece-item.is c.deref-piece-items.ensures.value refl) c.in_ok-pieces.ensures
    (only_left _ c.in-Some.left _ c.left_of.ensures c.in-Some.is))

pub returns : goal.returns
returns c =
    let gs = c.args.signals.now in
    let old = c.args.claims.now.items in
    let xs = c.deref-piece-items.result.now in
    ended (λ ys. flat_map (left_claims gs) (flat_map (action_lefts v.Any) (map piece_meant ys))) xs c.loop-piece.piece-index c.loop-piece.claims.items old
    (flat_map (left_claims gs) (flat_map (action_lefts v.Any) (map piece_meant xs))) refl c.loop-piece-test.false c.loop-piece.invariant
    ∙ ap (λ z. old ++ z)
    (ap (λ ys. flat_map (left_claims gs) (flat_map (action_lefts v.Any) (map piece_meant ys))) c.deref-piece-items.ensures.value
    ∙ ap (flat_map (left_claims gs)) (ap (flat_map (action_lefts v.Any)) c.in_ok-pieces.ensures ∙ actions_lefts v.Any c.args.body.now))
