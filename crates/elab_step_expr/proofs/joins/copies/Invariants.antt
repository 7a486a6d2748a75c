use Rattle.std.proofs.Common.{◌≡◌, ◌*◌}
use Rattle.word_dag.specs.Adding.{Keeps}
use Rattle.vlog_tree_values.specs.Shapes.{copy_number}
use Rattle.elab_step_expr.specs.Nodes.{Makes, number_at}
use Rattle.elab_step_expr.proofs.joins.copies.Given as goal

-- the copies so far
abbrev pub invariant-loop-copy : goal.invariant-loop-copy
invariant-loop-copy l = record {
  keeps : Keeps l.fn.dag l.dag;
  width : l.all.width ≡ l.copy * l.row.width;
  made : Makes l.dag l.all.node l.all.width (λ e. copy_number l.copy l.row.width (number_at e l.fn.dag l.row.node));
}
