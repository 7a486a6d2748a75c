use Rattle.cnf_build.proofs.Tidying.{HasLoop}
use Rattle.cnf_build.proofs.tidy.has.Given as goal

abbrev pub invariant-loop-l : goal.invariant-loop-l
invariant-loop-l l = HasLoop l.lits l.lit l.l-index
