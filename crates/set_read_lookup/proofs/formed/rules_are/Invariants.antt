use Rattle.std.proofs.Common.{map, drop}
use Rattle.set_read_lookup.specs.Tests.{IsPresent}
use Rattle.set_read_lookup.proofs.Judged.{Decides}
use Rattle.set_read_lookup.proofs.formed.rules_are.Given as goal

abbrev pub invariant-loop-rule : goal.invariant-loop-rule
invariant-loop-rule l = Decides (IsPresent l.valuation) (map (λ r. r.formula) (drop l.rule-index l.rules)) (map (λ r. r.formula) l.rules)
