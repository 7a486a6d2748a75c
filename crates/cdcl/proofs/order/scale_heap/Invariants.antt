use Rattle.std.proofs.Common.{ℕ}
use Rattle.cdcl.specs.Orders.{AreBelow}
use Rattle.cdcl.proofs.order.scale_heap.Given as goal

abbrev pub invariant-loop-place : goal.invariant-loop-place
invariant-loop-place l = (vars : ℕ) → AreBelow vars l.initial.heap → AreBelow vars l.heap
