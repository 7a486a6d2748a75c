use Rattle.cdcl.specs.Reasons.{clauses_in, entries_in}
use Rattle.cdcl.specs.Conflicts.{IsReduced}
use Rattle.cdcl.proofs.conflict.Conflict.reduce.Given as goal

abbrev pub invariant-loop-place : goal.invariant-loop-place
invariant-loop-place l = IsReduced (clauses_in l.reasons) (entries_in l.reasons) l.start l.cut l.place l.self
