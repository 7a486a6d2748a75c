use Rattle.std.proofs.Common.{◌≡◌, ◌++◌, drop, map}
use Rattle.set_read_lookup.proofs.twice.note_rules.Given as goal

abbrev pub invariant-loop-rule : goal.invariant-loop-rule
invariant-loop-rule l = l.names ++ map (λ x. x.name) (drop l.rule-index l.rules) ≡ l.fn.names ++ map (λ x. x.name) l.rules
