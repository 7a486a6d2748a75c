use Rattle.std.proofs.Common.{◌≡◌, ◌++◌, drop, map}
use Rattle.std.specs.List.{flat_map}
use Rattle.elab_flat_scopes.specs.Borrowed.{name_meant}
use Rattle.vlog_tree.specs.declared.item.Assign.{Assign}
use Rattle.vlog_tree_runs.specs.Blocks.{left_names}
use Rattle.elab_flat_drivers.proofs.names.assign_names.Given as goal

abbrev pub invariant-loop-assign : goal.invariant-loop-assign
invariant-loop-assign l = map name_meant l.all.items ++ flat_map (λ (a : Assign). left_names a.left) (drop l.assign-index l.assigns) ≡ flat_map (λ (a : Assign). left_names a.left) l.assigns
