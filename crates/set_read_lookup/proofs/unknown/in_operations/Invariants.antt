use Rattle.std.proofs.Common.{◌≡◌, drop}
use Rattle.std.specs.List.{find, flat_map}
use Rattle.set_read_lookup.specs.Faults.{names_of, is_wanted}
use Rattle.set_read_lookup.proofs.unknown.in_operations.Given as goal

abbrev pub invariant-loop-operation : goal.invariant-loop-operation
invariant-loop-operation l = find (is_wanted l.wanted) (flat_map names_of (drop l.operation-index l.operations)) ≡ find (is_wanted l.wanted) (flat_map names_of l.operations)
