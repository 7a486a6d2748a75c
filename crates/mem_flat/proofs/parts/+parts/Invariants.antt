use Rattle.std.proofs.Common.{◌≡◌, ◌++◌, drop, map}
use Rattle.std.specs.List.{flat_map}
use Rattle.elab_flat_faults.specs.Drivers.{parts_of}
use Rattle.mem_flat.specs.Borrowed.{left_meant}
use Rattle.mem_flat.proofs.parts.+parts.Given as goal

abbrev pub invariant-add_row_parts-loop-left : goal.invariant-add_row_parts-loop-left
invariant-add_row_parts-loop-left l = map left_meant l.all.items ++ flat_map parts_of (drop l.left-index l.lefts) ≡ map left_meant l.initial.all.items ++ flat_map parts_of l.lefts
