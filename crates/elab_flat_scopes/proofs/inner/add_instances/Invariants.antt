use Rattle.std.proofs.Common.{◌≡◌, ◌++◌, drop, map}
use Rattle.vlog_tree_runs.specs.Contents.{inner_of}
use Rattle.elab_flat_scopes.specs.Borrowed.{inner_meant}
use Rattle.elab_flat_scopes.proofs.inner.add_instances.Given as goal

abbrev pub invariant-loop-instance : goal.invariant-loop-instance
invariant-loop-instance l =
    map inner_meant l.all.items ++ map (inner_of l.of_module l.overrides) (drop l.instance-index l.instances)
    ≡ map inner_meant l.initial.all.items ++ map (inner_of l.of_module l.overrides) l.instances
