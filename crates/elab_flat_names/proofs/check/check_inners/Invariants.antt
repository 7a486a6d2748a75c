use Rattle.std.proofs.Common.{map, drop, ◌⊎◌}
use Rattle.vlog_tree_runs.specs.Places.{Among}
use Rattle.vlog_tree_runs.specs.Contents.{Inner}
use Rattle.elab_flat_scopes.specs.Borrowed.{inner_meant}
use Rattle.elab_flat_instances.specs.Unfolding.{scope_meant}
use Rattle.elab_flat_names.specs.Rows.{FitsInner}
use Rattle.elab_flat_names.proofs.check.check_inners.Given as goal

abbrev pub invariant-loop-inner : goal.invariant-loop-inner
invariant-loop-inner l =
    (i : Inner) → Among (map inner_meant l.instances) i → (FitsInner l.modules (scope_meant l.scope) i) ⊎ Among (map inner_meant (drop l.inner-index l.instances)) i
