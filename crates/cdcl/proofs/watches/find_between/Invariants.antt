use Rattle.cdcl.specs.Finding.{NoneOther}
use Rattle.cdcl.proofs.watches.find_between.Given as goal

abbrev pub invariant-loop-place : goal.invariant-loop-place
invariant-loop-place l = NoneOther l.clause l.var l.values l.start l.place
