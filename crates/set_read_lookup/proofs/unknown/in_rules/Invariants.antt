use Rattle.std.proofs.Common.{◌≡◌, drop}
use Rattle.std.specs.List.{find, flat_map}
use Rattle.set_read_lookup.specs.Faults.{names_in, is_wanted}
use Rattle.set_read_lookup.proofs.unknown.in_rules.Given as goal

abbrev pub invariant-loop-rule : goal.invariant-loop-rule
invariant-loop-rule l = find (is_wanted l.wanted) (flat_map (λ r. names_in r.formula) (drop l.rule-index l.rules)) ≡ find (is_wanted l.wanted) (flat_map (λ r. names_in r.formula) l.rules)
