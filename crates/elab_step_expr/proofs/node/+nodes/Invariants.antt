use Rattle.std.proofs.Common.{◌≡◌, ◌+◌, ◌*◌, ◌^◌, ◌≤◌, drop}
use Rattle.word_dag.specs.Nodes.{Naming}
use Rattle.word_dag.specs.Adding.{Keeps}
use Rattle.vlog_tree.specs.Value.{own}
use Rattle.vlog_tree_values.specs.Shapes.{each_row}
use Rattle.elab_step_expr.specs.Leaves.{AreReady, declared, valued}
use Rattle.elab_step_expr.specs.Nodes.{Makes, number_at, words}
use Rattle.elab_step_expr.specs.Terms.{EachAlone, so_far}
use Rattle.elab_step_expr.proofs.node.+nodes.Given as goal

-- the bits so far, and those to come
abbrev pub invariant-row_node-loop-item : goal.invariant-row_node-loop-item
invariant-row_node-loop-item l = record {
  keeps : Keeps l.fn.dag l.dag;
  ready : AreReady l.leaves l.dag;
  alone : EachAlone l.leaves (drop l.item-index l.items);
  node : 1 ≤ l.all.width → Makes l.dag l.all.node l.all.width (λ e. number_at e l.dag l.all.node);
  width : l.all.width + (each_row (declared l.leaves) (drop l.item-index l.items)).width ≡ (each_row (declared l.leaves) l.items).width;
  number : (e : Naming) → so_far e l.dag l.all * 2 ^ (each_row (valued l.leaves (words e l.dag)) (drop l.item-index l.items)).width + own (each_row (valued l.leaves (words e l.dag)) (drop l.item-index l.items)) ≡ own (each_row (valued l.leaves (words e l.dag)) l.items);
}
