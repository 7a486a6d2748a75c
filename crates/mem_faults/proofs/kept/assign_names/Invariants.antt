use Rattle.std.proofs.Common.{◌≡◌, ◌++◌, drop, map}
use Rattle.std.specs.List.{flat_map}
use Rattle.elab_flat_scopes.specs.Borrowed.{name_meant}
use Rattle.mem_faults.specs.Kept.{assign_names}
use Rattle.mem_faults.proofs.kept.assign_names.Given as goal

abbrev pub invariant-loop-assign : goal.invariant-loop-assign
invariant-loop-assign l = map name_meant l.all.items ++ flat_map assign_names (drop l.assign-index l.assigns) ≡ flat_map assign_names l.assigns
