use Rattle.std.proofs.Common.{length}
use Rattle.cnf_build.proofs.tidy.+is_tidy.Given as goal

abbrev pub decreases-is_tidy : goal.decreases-is_tidy
decreases-is_tidy l = length l.lits.now
