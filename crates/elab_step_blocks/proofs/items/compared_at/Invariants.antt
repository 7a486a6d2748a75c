use Rattle.std.proofs.Common.{drop}
use Rattle.vlog_tree_runs.specs.Blocks.{case_width, case_sign}
use Rattle.elab_step_expr.specs.Leaves.{declared}
use Rattle.elab_step_blocks.specs.Cases.{each_labels}
use Rattle.elab_step_blocks.proofs.Labelling.{Longest}
use Rattle.elab_step_blocks.proofs.items.compared_at.Given as goal

abbrev pub invariant-loop-item : goal.invariant-loop-item
invariant-loop-item l =
    Longest (declared l.leaves) l.longest.0 l.longest.1 (each_labels (drop l.item-index l.case.items.now)) (case_width (declared l.leaves) l.case.subject.now (each_labels l.case.items.now)) (case_sign (declared l.leaves) l.case.subject.now (each_labels l.case.items.now))
