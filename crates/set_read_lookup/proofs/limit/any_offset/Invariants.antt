use Rattle.std.proofs.Common.{◌≡◌, drop}
use Rattle.std.specs.List.{list_any}
use Rattle.set_read_lookup.specs.Faults.{leaves_offset}
use Rattle.set_read_lookup.proofs.limit.any_offset.Given as goal

abbrev pub invariant-loop-rule : goal.invariant-loop-rule
invariant-loop-rule l = list_any leaves_offset (drop l.rule-index l.rules) ≡ list_any leaves_offset l.rules
