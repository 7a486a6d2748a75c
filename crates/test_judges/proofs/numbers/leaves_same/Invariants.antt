use Rattle.std.proofs.Common.{◌≡◌, drop}
use Rattle.word_dag.specs.Adding.{Keeps}
use Rattle.elab_step_expr.specs.Nodes.{number_at}
use Rattle.test_judges.specs.Numbers.{nought, leaves_same}
use Rattle.test_judges.proofs.numbers.leaves_same.Given as goal

abbrev pub invariant-loop-i : goal.invariant-loop-i
invariant-loop-i l =
    Keeps l.fn.dag l.dag × (leaves_same (number_at nought l.fn.dag) (drop l.i l.masks) (drop l.i l.leaves) (drop l.i l.values) ≡ leaves_same (number_at nought l.fn.dag) l.masks l.leaves l.values)
