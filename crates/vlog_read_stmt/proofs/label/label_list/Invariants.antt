use Rattle.std.proofs.Common.{◌-◌, length}
use Rattle.vlog_read_stmt.proofs.LabelSteps.{Begun_labels}
use Rattle.vlog_read_stmt.proofs.label.label_list.Given as goal

abbrev pub invariant-loop-alloc : goal.invariant-loop-alloc
invariant-loop-alloc l = Begun_labels l.kind l.tokens l.at l.depth l.items l.height l.end

abbrev pub decreases-loop-alloc : goal.decreases-loop-alloc
decreases-loop-alloc l = length l.tokens - l.end
