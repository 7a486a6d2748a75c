use Rattle.cnf_build.specs.Building.{bit_gate}
use Rattle.cnf_build.proofs.Loops.{RowLoop}
use Rattle.cnf_build.proofs.circuits.gate_row.Given as goal

abbrev pub invariant-loop-i : goal.invariant-loop-i
invariant-loop-i l = RowLoop (bit_gate l.kind) l.fn.gates.items l.gates.items l.lits.items l.a l.b l.i
