use Rattle.std.proofs.Common.{◌≡◌, drop}
use Rattle.std.specs.List.{list_any}
use Rattle.set_tree.specs.declared.set.Rule.{Rule}
use Rattle.set_tree.specs.Formulas.{meaning_of}
use Rattle.path_machine.specs.Unmet.{fails}
use Rattle.path_machine.proofs.failing.any_fails.Given as goal

-- the constraints that are left tell
abbrev pub invariant-loop-rule : goal.invariant-loop-rule
invariant-loop-rule l =
    list_any (λ (rule : Rule). fails (meaning_of l.set) rule.formula l.rows) (drop l.rule-index l.rule-items) ≡ list_any (λ (rule : Rule). fails (meaning_of l.set) rule.formula l.rows) l.set.constraints
