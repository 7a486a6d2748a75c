use Rattle.std.proofs.Common.{length}
use Rattle.test_judges.proofs.masks.+bits_in.Given as goal

abbrev pub decreases-bits_in : goal.decreases-bits_in
decreases-bits_in l = length l.parts.now
