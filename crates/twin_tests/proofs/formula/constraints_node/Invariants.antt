use Rattle.std.proofs.Common.{◌-◌, length, take, drop}
use Rattle.std.specs.List.{list_all}
use Rattle.twin_tests_laws.specs.Tests.{all_below}
use Rattle.set_tree.specs.Formulas.{largest_offset, meaning_of}
use Rattle.set_tree.specs.Meaning.{holds}
use Rattle.twin_tests.specs.Building.{Shows}
use Rattle.twin_tests.proofs.Loops.{Builds}
use Rattle.twin_tests.proofs.formula.constraints_node.Given as goal

-- whether the constraints so far hold
abbrev pub invariant-loop-rule : goal.invariant-loop-rule
invariant-loop-rule l =
    Builds (λ f. Shows l.set.names l.fn.dag l.rows f) l.fn.dag l.dag l.all
    (λ rows. list_all (λ rule. all_below (length rows - largest_offset rule.formula) (λ t. holds (meaning_of l.set) rule.formula (drop t rows))) (take l.rule-index l.rule-items))
