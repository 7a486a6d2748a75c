use Rattle.std.proofs.Common.{◌≡◌, ◌++◌, drop, map}
use Rattle.vlog_tree_runs.specs.Contents.{assigns_in}
use Rattle.vlog_tree_runs.specs.Scopes.{own_link, place_of}
use Rattle.elab_flat_laws.specs.Flattened.{moved_link}
use Rattle.elab_flat_scopes.specs.Borrowed.{assigned_meant}
use Rattle.elab_flat_instances.specs.Unfolding.{scope_meant}
use Rattle.elab_flat.proofs.link.add_own.Given as goal

abbrev pub invariant-loop-assigned : goal.invariant-loop-assigned
invariant-loop-assigned l =
    l.all ++ map moved_link (map (own_link (place_of (scope_meant l.scope))) (map assigned_meant (drop l.assigned-index l.assigned-items)))
    ≡ l.initial.all ++ map moved_link (map (own_link (place_of (scope_meant l.scope))) (assigns_in l.scope.text.now))
