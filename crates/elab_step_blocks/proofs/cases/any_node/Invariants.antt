use Rattle.std.proofs.Common.{take}
use Rattle.std.specs.List.{list_any}
use Rattle.word_dag.specs.Adding.{Keeps}
use Rattle.vlog_tree.specs.Value.{bit}
use Rattle.elab_step_expr.specs.Leaves.{valued}
use Rattle.elab_step_expr.specs.Nodes.{Makes, number_at, words}
use Rattle.elab_step_blocks.specs.Cases.{is_match}
use Rattle.elab_step_blocks.proofs.cases.any_node.Given as goal

-- whether one of the labels so far matches
abbrev pub invariant-loop-label : goal.invariant-loop-label
invariant-loop-label l = record {
  keeps : Keeps l.fn.dag l.dag;
  any : Makes l.dag l.any 1 (λ e. bit (list_any (is_match l.fn.subject.kind (valued l.leaves (words e l.fn.dag)) l.fn.subject.wire.width l.fn.subject.signed (number_at e l.fn.dag l.fn.subject.wire.node)) (take l.label-index l.labels)));
}
