use Rattle.std.proofs.Common.{◌≡◌, ◌++◌, Some, drop, map}
use Rattle.std.specs.List.{flat_map}
use Rattle.vlog_tree_runs.specs.Scopes.{connection, connections, place_of}
use Rattle.elab_flat_laws.specs.Flattened.{moved_link}
use Rattle.elab_flat_scopes.specs.Borrowed.{given_meant, inner_meant}
use Rattle.elab_flat_instances.specs.Unfolding.{scope_meant}
use Rattle.elab_flat.proofs.link.add_connections.Given as goal

abbrev pub invariant-loop-gift : goal.invariant-loop-gift
invariant-loop-gift l =
    l.all ++ map moved_link (flat_map (connection (place_of (scope_meant l.outer)) (scope_meant l.inner)) (map given_meant (drop l.gift-index l.gift-items)))
    ≡ l.initial.all ++ map moved_link (connections (place_of (scope_meant l.outer)) (inner_meant l.instance) (Some (scope_meant l.inner)))
