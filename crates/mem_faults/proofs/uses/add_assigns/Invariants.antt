use Rattle.std.proofs.Common.{◌≡◌, ◌++◌, drop, map}
use Rattle.std.specs.List.{flat_map}
use Rattle.elab_flat_drivers.specs.Parts.{part_meant}
use Rattle.mem_faults.specs.Used.{assign_uses}
use Rattle.mem_faults.proofs.uses.add_assigns.Given as goal

abbrev pub invariant-loop-assign : goal.invariant-loop-assign
invariant-loop-assign l = map part_meant l.all.items ++ flat_map assign_uses (drop l.assign-index l.assigns) ≡ map part_meant l.initial.all.items ++ flat_map assign_uses l.assigns
