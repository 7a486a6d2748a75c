use Rattle.std.proofs.Common.{take}
use Rattle.word_dag.specs.Adding.{Keeps}
use Rattle.test_judges.specs.Showing.{AreHeld}
use Rattle.test_judges.proofs.board.leaves.Given as goal

abbrev pub invariant-loop-i : goal.invariant-loop-i
invariant-loop-i l = Keeps l.fn.dag l.dag × AreHeld l.dag (take l.i l.signals) l.leaves (take l.i l.values)
