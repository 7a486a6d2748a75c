use Rattle.std.proofs.Common.{take}
use Rattle.set_tree.specs.Formulas.{meaning_of}
use Rattle.set_tree.specs.Meaning.{all_hold}
use Rattle.twin_tests.specs.Building.{Shows}
use Rattle.twin_tests.proofs.Loops.{Builds}
use Rattle.twin_tests.proofs.formula.all_node.Given as goal

-- whether the formulas so far hold
abbrev pub invariant-loop-formula : goal.invariant-loop-formula
invariant-loop-formula l = Builds (λ f. Shows l.set.names l.fn.dag l.rows f) l.fn.dag l.dag l.all (λ rows. all_hold (meaning_of l.set) (take l.formula-index l.formulas) rows)
