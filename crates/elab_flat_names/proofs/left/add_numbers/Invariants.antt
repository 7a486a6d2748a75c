use Rattle.std.proofs.Common.{◌≡◌, ◌++◌, drop, map}
use Rattle.std.specs.List.{flat_map}
use Rattle.elab_flat_faults.specs.Texts.{numbers_in}
use Rattle.elab_flat_drivers.specs.Parts.{part_meant}
use Rattle.elab_flat_names.specs.Exprs.{expr_meant}
use Rattle.elab_flat_names.proofs.left.add_numbers.Given as goal

abbrev pub invariant-loop-part : goal.invariant-loop-part
invariant-loop-part l = map expr_meant l.all.items ++ flat_map numbers_in (map part_meant (drop l.part-index l.part-items)) ≡ map expr_meant l.initial.all.items ++ flat_map numbers_in (map part_meant l.part-items)
