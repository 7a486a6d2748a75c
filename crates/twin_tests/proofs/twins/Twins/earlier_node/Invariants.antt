use Rattle.std.proofs.Common.{◌-◌, drop}
use Rattle.twin_tests_laws.specs.Tests.{any_from}
use Rattle.set_tree.specs.Formulas.{meaning_of}
use Rattle.set_tree.specs.Meaning.{holds}
use Rattle.twin_tests.specs.Building.{Shows}
use Rattle.twin_tests.proofs.Loops.{Builds}
use Rattle.twin_tests.proofs.twins.Twins.earlier_node.Given as goal

-- whether it holds in one of the rows so far
abbrev pub invariant-loop-t : goal.invariant-loop-t
invariant-loop-t l = Builds (λ f. Shows l.self.set.now.names l.fn.dag l.rows f) l.fn.dag l.dag l.any (λ rows. any_from l.fn.span.from (l.t - l.fn.span.from) (λ t. holds (meaning_of l.self.set.now) l.formula (drop t rows)))
