use Rattle.std.proofs.Common.{◌≡◌, ◌+◌, drop}
use Rattle.set_read_lookup.specs.Meaning.{operation_from}
use Rattle.set_read_lookup.proofs.looked.operation_of.Given as goal

abbrev pub invariant-loop-at : goal.invariant-loop-at
invariant-loop-at l = operation_from (drop l.at l.operations) l.name (l.at + 1) ≡ operation_from l.operations l.name 1
