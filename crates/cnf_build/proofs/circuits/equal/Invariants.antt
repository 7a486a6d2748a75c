use Rattle.std.proofs.Common.{length}
use Rattle.cnf_build.specs.Circuits.{equal_from, true_lit}
use Rattle.cnf_build.proofs.Loops.{EqualLoop}
use Rattle.cnf_build.proofs.circuits.equal.Given as goal

abbrev pub invariant-loop-i : goal.invariant-loop-i
invariant-loop-i l = EqualLoop l.fn.gates.items l.gates.items l.same (equal_from (length l.fn.gates.items) true_lit l.a l.b) l.a l.b l.i
