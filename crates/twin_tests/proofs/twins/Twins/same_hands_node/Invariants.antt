use Rattle.std.proofs.Common.{take}
use Rattle.std.specs.Prelude.{◌==◌}
use Rattle.std.specs.List.{list_all}
use Rattle.set_tree.specs.Formulas.{meaning_of}
use Rattle.twin_tests.proofs.Loops.{Builds, ShowBoth}
use Rattle.twin_tests.proofs.twins.Twins.same_hands_node.Given as goal

-- whether the formulas so far agree
abbrev pub invariant-loop-formula : goal.invariant-loop-formula
invariant-loop-formula l =
    Builds (ShowBoth l.self.set.now.names l.fn.dag l.pair.first.now l.pair.second.now) l.fn.dag l.dag l.all (λ pair. list_all (λ e. (meaning_of l.self.set.now).value e pair.0 == (meaning_of l.self.set.now).value e pair.1) (take l.formula-index l.formula-items))
