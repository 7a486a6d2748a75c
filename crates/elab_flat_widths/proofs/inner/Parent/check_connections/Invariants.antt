use Rattle.std.proofs.Common.{◌⊎◌, drop, map}
use Rattle.vlog_tree_runs.specs.Places.{Among}
use Rattle.vlog_tree_runs.specs.Contents.{signals_in}
use Rattle.vlog_tree_runs.specs.Scopes.{Given, place_of, decl_at}
use Rattle.elab_flat_scopes.specs.Borrowed.{given_meant}
use Rattle.elab_flat_instances.specs.Unfolding.{scope_meant}
use Rattle.elab_flat_widths.specs.Texts.{IsSoundConnection}
use Rattle.elab_flat_widths.proofs.inner.Parent.check_connections.Given as goal

abbrev pub invariant-loop-connection : goal.invariant-loop-connection
invariant-loop-connection l =
    (g : Given) → Among (map given_meant l.connection-items) g →
    (IsSoundConnection (place_of (scope_meant l.self.scope.now)) (scope_meant l.child) g (decl_at (signals_in l.child.text.now) g.name)) ⊎ Among (map given_meant (drop l.connection-index l.connection-items)) g
