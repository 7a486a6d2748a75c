use Rattle.std.proofs.Common.{◌-◌, pos, ◌-ℤ◌}
use Rattle.word_dag.specs.Adding.{Keeps}
use Rattle.vlog_tree.specs.Value.{integer}
use Rattle.elab_step_expr.specs.Nodes.{Makes, number_at}
use Rattle.elab_step_expr.proofs.Codes.{tried}
use Rattle.elab_step_expr.proofs.indexed.indexed.Given as goal

-- the bits at the distances so far
abbrev pub invariant-loop-step : goal.invariant-loop-step
invariant-loop-step l = record {
  keeps : Keeps l.fn.dag l.dag;
  bits : Makes l.dag l.bits l.width (λ e. tried (integer l.index.signed l.index.wire.width (number_at e l.fn.dag l.index.wire.node) -ℤ l.from) (pos l.step -ℤ pos (l.width - 1)) (number_at e l.fn.dag l.a.node) l.width);
}
