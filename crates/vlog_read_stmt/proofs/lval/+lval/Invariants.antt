use Rattle.std.proofs.Common.{◌+◌, ◌-◌, ◌*◌, length}
use Rattle.vlog_read_stmt.proofs.LvalSteps.{Begun_lvals}
use Rattle.vlog_read_stmt.proofs.lval.+lval.Given as goal

abbrev pub decreases-read_lval : goal.decreases-read_lval
decreases-read_lval l = 4 * l.depth + 1

abbrev pub decreases-concat : goal.decreases-concat
decreases-concat l = 4 * l.depth

abbrev pub decreases-list : goal.decreases-list
decreases-list l = 4 * l.depth + 2

abbrev pub invariant-list-loop-alloc : goal.invariant-list-loop-alloc
invariant-list-loop-alloc l = Begun_lvals l.tokens l.at l.depth l.items l.height l.end

abbrev pub decreases-list-loop-alloc : goal.decreases-list-loop-alloc
decreases-list-loop-alloc l = length l.tokens - l.end
