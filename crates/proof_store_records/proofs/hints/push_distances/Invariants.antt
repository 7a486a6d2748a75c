use Rattle.std.proofs.Common.{◌≡◌, ◌++◌, drop}
use Rattle.std.specs.List.{flat_map}
use Rattle.proof_store_records.specs.Varint.{varint}
use Rattle.proof_store_records.specs.Layout.{distances, distances_after}
use Rattle.proof_store_records.proofs.hints.push_distances.Given as goal

abbrev pub invariant-loop-hint : goal.invariant-loop-hint
invariant-loop-hint l = l.out.items ++ flat_map varint (distances_after l.before (drop l.hint-index l.later)) ≡ l.fn.out.items ++ flat_map varint (distances l.fn.hints)
