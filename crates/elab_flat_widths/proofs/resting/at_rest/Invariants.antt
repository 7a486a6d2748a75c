use Rattle.std.proofs.Common.{◌≡◌, ◌++◌, drop, map}
use Rattle.std.specs.List.{flat_map}
use Rattle.vlog_tree_runs.specs.Scopes.{signal_of}
use Rattle.elab_flat_scopes.specs.Borrowed.{decl_meant}
use Rattle.elab_flat_widths.specs.Ranges.{resting}
use Rattle.elab_flat_widths.proofs.resting.at_rest.Given as goal

abbrev pub invariant-loop-decl : goal.invariant-loop-decl
invariant-loop-decl l =
    l.rest ++ flat_map resting (map (signal_of l.scope.params) (map decl_meant (drop l.decl-index l.decl-items))) ≡ l.scope.params ++ flat_map resting (map (signal_of l.scope.params) (map decl_meant l.decl-items))
