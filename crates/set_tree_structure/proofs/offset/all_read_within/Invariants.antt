use Rattle.std.proofs.Common.{◌≡◌, drop}
use Rattle.set_tree_structure.specs.Tests.{all_read_within}
use Rattle.set_tree_structure.proofs.offset.all_read_within.Given as goal

abbrev pub invariant-loop-formula : goal.invariant-loop-formula
invariant-loop-formula l = all_read_within l.window (drop l.formula-index l.formulas) ≡ all_read_within l.window l.formulas
