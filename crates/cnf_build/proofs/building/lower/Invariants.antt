use Rattle.cnf_build.proofs.LowerLoop.{LowerLoop}
use Rattle.cnf_build.proofs.building.lower.Given as goal

abbrev pub invariant-loop-i : goal.invariant-loop-i
invariant-loop-i l = LowerLoop l.gates.items l.table.items l.bits.items l.nodes l.i
