use Rattle.std.proofs.Common.{max, drop, ◌&&◌}
use Rattle.vlog_tree_runs.specs.Blocks.{widest, all_signed}
use Rattle.elab_step_expr.specs.Leaves.{declared}
use Rattle.elab_step_blocks.proofs.Labelling.{Longest}
use Rattle.elab_step_blocks.proofs.items.with_labels.Given as goal

abbrev pub invariant-loop-label : goal.invariant-loop-label
invariant-loop-label l = Longest (declared l.leaves) l.longest.0 l.longest.1 (drop l.label-index l.labels) (max l.fn.here.0 (widest (declared l.leaves) l.labels)) (l.fn.here.1 && all_signed (declared l.leaves) l.labels)
