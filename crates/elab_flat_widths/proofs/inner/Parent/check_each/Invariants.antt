use Rattle.std.proofs.Common.{◌⊎◌, drop, map}
use Rattle.vlog_tree_runs.specs.Places.{Among}
use Rattle.vlog_tree_runs.specs.Contents.{Inner}
use Rattle.elab_flat_scopes.specs.Borrowed.{inner_meant}
use Rattle.elab_flat_instances.specs.Unfolding.{scope_meant}
use Rattle.elab_flat_widths.specs.Texts.{HasSoundConnections}
use Rattle.elab_flat_widths.proofs.inner.Parent.check_each.Given as goal

abbrev pub invariant-loop-inner : goal.invariant-loop-inner
invariant-loop-inner l =
    (i : Inner) → Among (map inner_meant l.instances) i → (HasSoundConnections l.self.modules.now (scope_meant l.self.scope.now) i) ⊎ Among (map inner_meant (drop l.inner-index l.instances)) i
