use Rattle.std.proofs.Common.{◌<◌, length}
use Rattle.cdcl.specs.Orders.{AreBelow}
use Rattle.cdcl.proofs.order.sift_up.Given as goal

abbrev pub invariant-loop-i : goal.invariant-loop-i
invariant-loop-i l = record {
  within : l.i < length l.heap;
  below : AreBelow (length l.places) l.heap;
}

abbrev pub decreases-loop-i : goal.decreases-loop-i
decreases-loop-i l = l.i
