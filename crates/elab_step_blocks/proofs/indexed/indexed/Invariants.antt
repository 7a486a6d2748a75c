use Rattle.std.proofs.Common.{◌-◌, pos, ◌-ℤ◌}
use Rattle.word_dag.specs.Adding.{Keeps}
use Rattle.vlog_tree.specs.Value.{integer}
use Rattle.vlog_tree_runs.specs.Places.{write_bits}
use Rattle.elab_step_expr.specs.Nodes.{Makes, number_at}
use Rattle.elab_step_blocks.proofs.Trying.{tried}
use Rattle.elab_step_blocks.proofs.indexed.indexed.Given as goal

-- the word after the places so far
abbrev pub invariant-loop-step : goal.invariant-loop-step
invariant-loop-step l = record {
  keeps : Keeps l.fn.dag l.dag;
  number : Makes l.dag l.number l.write.change.old.width (λ e. tried (λ i. write_bits l.write.change.old.width i l.write.change.bits.width (number_at e l.fn.dag l.write.change.bits.node) (number_at e l.fn.dag l.write.change.old.node))
      (number_at e l.fn.dag l.write.change.old.node) (integer l.write.index.signed l.write.index.wire.width (number_at e l.fn.dag l.write.index.wire.node) -ℤ l.from) (pos l.step -ℤ pos (l.write.change.bits.width - 1)));
}
