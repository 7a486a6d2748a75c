use Rattle.std.proofs.Common.{◌≡◌, ◌++◌, drop, map}
use Rattle.elab_flat_drivers.specs.Parts.{part_meant}
use Rattle.test_judges.proofs.parts.add_left.Given as goal

abbrev pub invariant-loop-part : goal.invariant-loop-part
invariant-loop-part l = map part_meant l.all.items ++ map part_meant (drop l.part-index l.part-items) ≡ map part_meant l.initial.all.items ++ map part_meant l.part-items
