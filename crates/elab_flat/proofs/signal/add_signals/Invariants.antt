use Rattle.std.proofs.Common.{◌≡◌, ◌++◌, drop, map}
use Rattle.vlog_tree_runs.specs.Scopes.{signal_of}
use Rattle.elab_flat_laws.specs.Moved.{moved_signal}
use Rattle.elab_flat_laws.specs.Flattened.{flat_signals}
use Rattle.elab_flat_scopes.specs.Borrowed.{decl_meant}
use Rattle.elab_flat_instances.specs.Unfolding.{scope_meant}
use Rattle.elab_flat.proofs.signal.add_signals.Given as goal

abbrev pub invariant-loop-decl : goal.invariant-loop-decl
invariant-loop-decl l =
    l.all ++ map (moved_signal l.scope.prefix) (map (signal_of l.scope.params) (map decl_meant (drop l.decl-index l.decl-items)))
    ≡ l.initial.all ++ flat_signals (scope_meant l.scope)
