use Rattle.std.proofs.Common.{take}
use Rattle.word_dag.specs.Adding.{Keeps}
use Rattle.elab_step_expr.specs.Leaves.{AreReady}
use Rattle.elab_step_blocks.specs.Lefts.{AreParts}
use Rattle.elab_step_blocks.proofs.left.+left.Given as goal

abbrev pub invariant-row_targets-loop-left : goal.invariant-row_targets-loop-left
invariant-row_targets-loop-left l = record {
  keeps : Keeps l.fn.dag l.dag;
  ready : AreReady l.leaves l.dag;
  parts : AreParts l.leaves l.dag l.all.items (take l.left-index l.lefts);
}
