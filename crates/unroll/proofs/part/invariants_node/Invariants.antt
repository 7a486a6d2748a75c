use Rattle.std.proofs.Common.{take}
use Rattle.std.specs.List.{list_all}
use Rattle.set_tree.specs.Formulas.{meaning_of}
use Rattle.set_tree.specs.Meaning.{holds}
use Rattle.twin_tests.specs.Building.{Shows}
use Rattle.twin_tests.proofs.Loops.{Builds}
use Rattle.unroll.proofs.part.invariants_node.Given as goal

-- whether the invariants so far hold
abbrev pub invariant-loop-rule : goal.invariant-loop-rule
invariant-loop-rule l = Builds (λ f. Shows l.set.names l.fn.dag l.rows f) l.fn.dag l.dag l.all (λ rows. list_all (λ rule. holds (meaning_of l.set) rule.formula rows) (take l.rule-index l.rule-items))
