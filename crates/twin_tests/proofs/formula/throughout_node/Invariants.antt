use Rattle.std.proofs.Common.{drop}
use Rattle.twin_tests_laws.specs.Tests.{all_below}
use Rattle.set_tree.specs.Formulas.{meaning_of}
use Rattle.set_tree.specs.Meaning.{holds}
use Rattle.twin_tests.specs.Building.{Shows}
use Rattle.twin_tests.proofs.Loops.{Builds}
use Rattle.twin_tests.proofs.formula.throughout_node.Given as goal

-- whether it holds in the rows so far
abbrev pub invariant-loop-t : goal.invariant-loop-t
invariant-loop-t l = Builds (λ f. Shows l.set.names l.fn.dag l.rows f) l.fn.dag l.dag l.all (λ rows. all_below l.t (λ t. holds (meaning_of l.set) l.formula (drop t rows)))
