use Rattle.std.proofs.Common.{length}
use Rattle.elab_step_blocks.proofs.stores.+bits.Given as goal

abbrev pub decreases-bits : goal.decreases-bits
decreases-bits l = length l.targets.now
