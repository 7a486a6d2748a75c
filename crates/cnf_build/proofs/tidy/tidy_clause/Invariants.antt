use Rattle.cnf_build.proofs.Tidying.{TidyLoop}
use Rattle.cnf_build.proofs.tidy.tidy_clause.Given as goal

abbrev pub invariant-loop-i : goal.invariant-loop-i
invariant-loop-i l = TidyLoop l.kept.items l.lits l.i
