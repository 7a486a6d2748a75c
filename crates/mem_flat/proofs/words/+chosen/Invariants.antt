use Rattle.std.proofs.Common.{length}
use Rattle.mem_flat.proofs.words.+chosen.Given as goal

abbrev pub decreases-chosen : goal.decreases-chosen
decreases-chosen l = length l.words.now
