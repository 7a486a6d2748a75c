use Rattle.std.proofs.Common.{◌≡◌, ◌++◌}
use Rattle.proof_store_records.specs.Varint.{varint}
use Rattle.proof_store_records.proofs.varint.push_varint.Given as goal

abbrev pub invariant-loop-left : goal.invariant-loop-left
invariant-loop-left l = l.out.items ++ varint l.left ≡ l.fn.out.items ++ varint l.number

abbrev pub decreases-loop-left : goal.decreases-loop-left
decreases-loop-left l = l.left
