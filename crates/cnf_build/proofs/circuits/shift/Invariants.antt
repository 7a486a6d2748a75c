use Rattle.std.proofs.Common.{length}
use Rattle.cnf_build.specs.Circuits.{shifter}
use Rattle.cnf_build.specs.Building.{moved_by}
use Rattle.cnf_build.proofs.Loops.{ShiftLoop}
use Rattle.cnf_build.proofs.circuits.shift.Given as goal

abbrev pub invariant-loop-i : goal.invariant-loop-i
invariant-loop-i l = ShiftLoop l.fn.gates.items l.gates.items (moved_by l.direction) l.lits.items (shifter (length l.fn.gates.items) (moved_by l.direction) 1 l.a l.b) l.b l.i
