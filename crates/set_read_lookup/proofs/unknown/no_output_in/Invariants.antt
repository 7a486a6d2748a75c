use Rattle.std.proofs.Common.{◌≡◌, drop}
use Rattle.std.specs.List.{find, flat_map}
use Rattle.set_read_lookup.specs.Faults.{is_no_output, outputs_of}
use Rattle.set_read_lookup.proofs.unknown.no_output_in.Given as goal

abbrev pub invariant-loop-operation : goal.invariant-loop-operation
invariant-loop-operation l = find (is_no_output l.declarations) (flat_map outputs_of (drop l.operation-index l.operations)) ≡ find (is_no_output l.declarations) (flat_map outputs_of l.operations)
