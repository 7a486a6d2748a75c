use Rattle.std.proofs.Common.{◌≡◌, ◌++◌, drop, map}
use Rattle.std.specs.List.{flat_map}
use Rattle.vlog_tree_runs.specs.Contents.{item_assigns}
use Rattle.elab_flat_scopes.specs.Borrowed.{assigned_meant}
use Rattle.elab_flat_scopes.proofs.assign.assigns_in.Given as goal

abbrev pub invariant-loop-item : goal.invariant-loop-item
invariant-loop-item l = map assigned_meant l.all.items ++ flat_map item_assigns (drop l.item-index l.item-items) ≡ flat_map item_assigns l.item-items
