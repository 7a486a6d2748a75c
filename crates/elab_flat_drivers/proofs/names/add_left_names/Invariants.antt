use Rattle.std.proofs.Common.{◌≡◌, ◌++◌, drop, map}
use Rattle.std.specs.List.{flat_map}
use Rattle.elab_flat_scopes.specs.Borrowed.{name_meant}
use Rattle.vlog_tree_runs.specs.Blocks.{left_names}
use Rattle.elab_flat_drivers.specs.Parts.{part_meant}
use Rattle.elab_flat_drivers.proofs.names.add_left_names.Given as goal

abbrev pub invariant-loop-part : goal.invariant-loop-part
invariant-loop-part l = map name_meant l.all.items ++ flat_map left_names (map part_meant (drop l.part-index l.part-items)) ≡ map name_meant l.initial.all.items ++ flat_map left_names (map part_meant l.part-items)
