use Rattle.std.proofs.Common.{◌≡◌, ◌-◌, length, drop}
use Rattle.std.specs.List.{list_all}
use Rattle.set_tree.specs.Formulas.{meaning_of, largest_offset}
use Rattle.set_tree.specs.Meaning.{holds}
use Rattle.set_tree.specs.declared.set.Rule.{Rule}
use Rattle.twin_tests_laws.specs.Tests.{all_below, meets_constraints}
use Rattle.replay_eval.proofs.property.meets_constraints.Given as goal

abbrev pub invariant-loop-rule : goal.invariant-loop-rule
invariant-loop-rule l =
    list_all (λ (rule : Rule). all_below (length l.rows - largest_offset rule.formula) (λ t. holds (meaning_of l.set) rule.formula (drop t l.rows))) (drop l.rule-index l.rule-items)
    ≡ meets_constraints (meaning_of l.set) l.set l.rows
