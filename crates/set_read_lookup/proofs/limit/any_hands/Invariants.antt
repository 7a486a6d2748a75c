use Rattle.std.proofs.Common.{◌≡◌, drop}
use Rattle.std.specs.List.{list_any}
use Rattle.set_read_lookup.specs.Faults.{leaves_hands}
use Rattle.set_read_lookup.proofs.limit.any_hands.Given as goal

abbrev pub invariant-loop-operation : goal.invariant-loop-operation
invariant-loop-operation l = list_any leaves_hands (drop l.operation-index l.operations) ≡ list_any leaves_hands l.operations
