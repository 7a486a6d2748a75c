use Rattle.std.proofs.Common.{◌≡◌, drop}
use Rattle.std.specs.List.{list_all}
use Rattle.set_tree.specs.declared.set.Rule.{Rule}
use Rattle.set_tree.specs.Formulas.{meaning_of}
use Rattle.set_tree.specs.Meaning.{holds}
use Rattle.test_judges.proofs.segments.meets_invariants.Given as goal

abbrev pub invariant-loop-rule : goal.invariant-loop-rule
invariant-loop-rule l =
    list_all (λ (rule : Rule). holds (meaning_of l.set) rule.formula l.rows) (drop l.rule-index l.rule-items)
    ≡ list_all (λ (rule : Rule). holds (meaning_of l.set) rule.formula l.rows) l.set.invariants
