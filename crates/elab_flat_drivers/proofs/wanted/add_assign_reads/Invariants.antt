use Rattle.std.proofs.Common.{◌≡◌, ◌++◌, drop, map}
use Rattle.std.specs.List.{flat_map}
use Rattle.elab_flat_drivers.specs.Parts.{part_meant}
use Rattle.elab_flat_drivers.specs.Wanting.{assign_reads}
use Rattle.elab_flat_drivers.proofs.wanted.add_assign_reads.Given as goal

abbrev pub invariant-loop-assign : goal.invariant-loop-assign
invariant-loop-assign l = map part_meant l.all.items ++ flat_map assign_reads (drop l.assign-index l.assigns) ≡ map part_meant l.initial.all.items ++ flat_map assign_reads (l.assigns)
