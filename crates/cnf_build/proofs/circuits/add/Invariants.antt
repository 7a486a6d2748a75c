use Rattle.std.proofs.Common.{length}
use Rattle.cnf_build.specs.Circuits.{adder}
use Rattle.cnf_build.proofs.Loops.{AddLoop}
use Rattle.cnf_build.proofs.circuits.add.Given as goal

abbrev pub invariant-loop-i : goal.invariant-loop-i
invariant-loop-i l = AddLoop l.fn.gates.items l.gates.items l.lits.items l.carry (adder (length l.fn.gates.items) l.fn.carry l.a l.b) l.a l.b l.i
