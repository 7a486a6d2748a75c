use Rattle.std.proofs.Common.{◌≡◌, drop}
use Rattle.std.specs.List.{list_any}
use Rattle.set_read_lookup.specs.Faults.{leaves_length}
use Rattle.set_read_lookup.proofs.limit.any_length.Given as goal

abbrev pub invariant-loop-operation : goal.invariant-loop-operation
invariant-loop-operation l = list_any leaves_length (drop l.operation-index l.operations) ≡ list_any leaves_length l.operations
