use Rattle.std.proofs.Common.{◌≡◌, ◌++◌, drop, map}
use Rattle.std.specs.List.{flat_map}
use Rattle.elab_flat_drivers.specs.Parts.{part_meant}
use Rattle.elab_flat_drivers.specs.Wanting.{part_reads}
use Rattle.elab_flat_drivers.proofs.wanted.add_left_reads.Given as goal

abbrev pub invariant-loop-part : goal.invariant-loop-part
invariant-loop-part l = map part_meant l.all.items ++ flat_map part_reads (map part_meant (drop l.part-index l.part-items)) ≡ map part_meant l.initial.all.items ++ flat_map part_reads (map part_meant l.part-items)
