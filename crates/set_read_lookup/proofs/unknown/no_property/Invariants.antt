use Rattle.std.proofs.Common.{◌≡◌, drop}
use Rattle.std.specs.List.{find}
use Rattle.set_read_lookup.specs.Faults.{is_no_property}
use Rattle.set_read_lookup.proofs.unknown.no_property.Given as goal

abbrev pub invariant-loop-name : goal.invariant-loop-name
invariant-loop-name l = find (is_no_property l.operations) (drop l.name-index l.names) ≡ find (is_no_property l.operations) l.names
