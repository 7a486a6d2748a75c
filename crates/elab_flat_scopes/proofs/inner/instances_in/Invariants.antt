use Rattle.std.proofs.Common.{◌≡◌, ◌++◌, drop, map}
use Rattle.std.specs.List.{flat_map}
use Rattle.vlog_tree_runs.specs.Contents.{item_instances}
use Rattle.elab_flat_scopes.specs.Borrowed.{inner_meant}
use Rattle.elab_flat_scopes.proofs.inner.instances_in.Given as goal

abbrev pub invariant-loop-item : goal.invariant-loop-item
invariant-loop-item l = map inner_meant l.all.items ++ flat_map item_instances (drop l.item-index l.item-items) ≡ flat_map item_instances l.item-items
