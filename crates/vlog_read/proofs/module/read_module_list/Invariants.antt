use Rattle.std.proofs.Common.{◌-◌, length}
use Rattle.vlog_read.proofs.ItemSteps.{ModulesSoFar}
use Rattle.vlog_read.proofs.module.read_module_list.Given as goal

abbrev pub invariant-loop-end : goal.invariant-loop-end
invariant-loop-end l = ModulesSoFar l.tokens l.list.items l.end

abbrev pub decreases-loop-end : goal.decreases-loop-end
decreases-loop-end l = length l.tokens - l.end
