use Rattle.std.proofs.Common.{◌≡◌, drop}
use Rattle.std.specs.Prelude.{◌==◌}
use Rattle.std.specs.List.{list_all}
use Rattle.vlog_tree.specs.declared.expr.Expr.{Expr}
use Rattle.set_tree.specs.Formulas.{meaning_of}
use Rattle.twin_tests_laws.specs.Tests.{same_hands}
use Rattle.replay_eval.proofs.property.same_hands.Given as goal

abbrev pub invariant-loop-formula : goal.invariant-loop-formula
invariant-loop-formula l =
    list_all (λ (e : Expr). (meaning_of l.set).value e l.one == (meaning_of l.set).value e l.other) (drop l.formula-index l.formula-items) ≡ same_hands (meaning_of l.set) l.set l.at l.one l.other
