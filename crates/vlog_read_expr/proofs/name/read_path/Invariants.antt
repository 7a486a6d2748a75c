use Rattle.std.proofs.Common.{◌-◌, length}
use Rattle.vlog_read_expr.proofs.NameSteps.{PathSoFar}
use Rattle.vlog_read_expr.proofs.name.read_path.Given as goal

abbrev pub invariant-loop-alloc : goal.invariant-loop-alloc
invariant-loop-alloc l = PathSoFar l.tokens l.at l.text l.end

abbrev pub decreases-loop-alloc : goal.decreases-loop-alloc
decreases-loop-alloc l = length l.tokens - l.end
