use Rattle.std.proofs.Common.{◌≡◌, drop}
use Rattle.set_read_lookup.specs.Faults.{first_next_twice}
use Rattle.set_read_lookup.proofs.twice.next_twice.Given as goal

abbrev pub invariant-loop-operation : goal.invariant-loop-operation
invariant-loop-operation l = first_next_twice (drop l.operation-index l.operations) ≡ first_next_twice l.operations
