use Rattle.std.proofs.Common.{◌-◌, length}
use Rattle.vlog_read.proofs.ItemSteps.{ItemsSoFar}
use Rattle.vlog_read.proofs.module.read_items.Given as goal

abbrev pub invariant-loop-alloc : goal.invariant-loop-alloc
invariant-loop-alloc l = ItemsSoFar l.tokens l.at l.depth l.items l.height l.end

abbrev pub decreases-loop-alloc : goal.decreases-loop-alloc
decreases-loop-alloc l = length l.tokens - l.end
