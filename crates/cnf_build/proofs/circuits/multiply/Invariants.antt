use Rattle.std.proofs.Common.{length}
use Rattle.std.specs.Prelude.{replicate}
use Rattle.cnf_build.specs.Circuits.{product_from, false_lit}
use Rattle.cnf_build.proofs.Loops.{ProductLoop}
use Rattle.cnf_build.proofs.circuits.multiply.Given as goal

abbrev pub invariant-loop-i : goal.invariant-loop-i
invariant-loop-i l = ProductLoop l.fn.gates.items l.gates.items l.sum.items l.up.items (product_from (length l.fn.gates.items) (replicate (length l.a) false_lit) l.a l.b) l.b l.i
