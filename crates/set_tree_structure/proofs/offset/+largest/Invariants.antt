use Rattle.std.proofs.Common.{◌≡◌, max, drop}
use Rattle.set_tree.specs.Formulas.{largest_offset}
use Rattle.set_tree_structure.proofs.Offsets.{largest_of}
use Rattle.set_tree_structure.proofs.offset.+largest.Given as goal

abbrev pub invariant-loop-part : goal.invariant-loop-part
invariant-loop-part l = max l.most (largest_of (drop l.part-index l.part-items)) ≡ largest_offset l.formula

abbrev pub invariant-loop-part-2 : goal.invariant-loop-part-2
invariant-loop-part-2 l = max l.most (largest_of (drop l.part-index l.part-items)) ≡ largest_offset l.formula
