use Rattle.std.proofs.Common.{length}
use Rattle.test_judges.proofs.masks.+names.Given as goal

abbrev pub decreases-names : goal.decreases-names
decreases-names l = length l.parts.now
