use Rattle.std.proofs.Common.{◌+◌, ◌-◌, ◌*◌, length}
use Rattle.vlog_read_stmt.proofs.StmtSteps.{Begun_seq}
use Rattle.vlog_read_stmt.proofs.CaseSteps.{Begun_cases}
use Rattle.vlog_read_stmt.proofs.stmt.+stmt.Given as goal

abbrev pub decreases-read_stmt : goal.decreases-read_stmt
decreases-read_stmt l = 6 * l.depth + 3

abbrev pub decreases-case_or_assignment : goal.decreases-case_or_assignment
decreases-case_or_assignment l = 6 * l.depth + 2

abbrev pub decreases-block : goal.decreases-block
decreases-block l = 6 * l.depth + 1

abbrev pub decreases-conditional : goal.decreases-conditional
decreases-conditional l = 6 * l.depth + 1

abbrev pub decreases-choice : goal.decreases-choice
decreases-choice l = 6 * l.depth + 1

abbrev pub decreases-with_else : goal.decreases-with_else
decreases-with_else l = 6 * l.depth

abbrev pub decreases-sequence : goal.decreases-sequence
decreases-sequence l = 6 * l.depth + 4

abbrev pub decreases-case_item : goal.decreases-case_item
decreases-case_item l = 6 * l.depth + 4

abbrev pub decreases-case_items : goal.decreases-case_items
decreases-case_items l = 6 * l.depth + 5

abbrev pub invariant-sequence-loop-alloc : goal.invariant-sequence-loop-alloc
invariant-sequence-loop-alloc l = Begun_seq l.tokens l.at l.depth l.items l.height l.end

abbrev pub decreases-sequence-loop-alloc : goal.decreases-sequence-loop-alloc
decreases-sequence-loop-alloc l = length l.tokens - l.end

abbrev pub invariant-case_items-loop-alloc : goal.invariant-case_items-loop-alloc
invariant-case_items-loop-alloc l = Begun_cases l.kind l.tokens l.at l.depth l.items l.height l.end l.defaults

abbrev pub decreases-case_items-loop-alloc : goal.decreases-case_items-loop-alloc
decreases-case_items-loop-alloc l = length l.tokens - l.end
