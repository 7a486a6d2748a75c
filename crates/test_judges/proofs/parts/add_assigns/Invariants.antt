use Rattle.std.proofs.Common.{◌≡◌, ◌++◌, drop, map}
use Rattle.elab_flat_drivers.specs.Parts.{part_meant}
use Rattle.test_judges.specs.Driving.{assign_parts}
use Rattle.test_judges.proofs.parts.add_assigns.Given as goal

abbrev pub invariant-loop-assign : goal.invariant-loop-assign
invariant-loop-assign l = map part_meant l.all.items ++ assign_parts (drop l.assign-index l.assigns) ≡ map part_meant l.initial.all.items ++ assign_parts l.assigns
