use Rattle.std.proofs.Common.{◌-◌, length}
use Rattle.vlog_tree.specs.Lists.{Comma}
use Rattle.vlog_read.proofs.ListSteps.{SoFar}
use Rattle.vlog_read.proofs.list.comma_list.Given as goal

abbrev pub invariant-loop-alloc : goal.invariant-loop-alloc
invariant-loop-alloc g l = SoFar l.tokens g.T.Part.height (Comma l.tokens) (g.T.Part.spells l.tokens) l.at l.depth l.items l.height l.end

abbrev pub decreases-loop-alloc : goal.decreases-loop-alloc
decreases-loop-alloc g l = length l.tokens - l.end
