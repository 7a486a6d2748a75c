use Rattle.set_read_lookup.specs.Faults.{names_in, is_wanted}
use Rattle.set_read_lookup.proofs.Searches.{passes_at, stops_at}
use Rattle.set_read_lookup.proofs.unknown.in_rules.Goals as goal

pub returns-in-Some : goal.returns-in-Some
returns-in-Some c =
    stops_at (λ r. names_in r.formula) (is_wanted c.args.wanted.now) c.args.rules.now c.loop-rule.rule-index c.rule-item.result c.loop-rule-test.true c.rule-item.is _ c.in-Some.name.now
    c.loop-rule.invariant c.in-Some.ensures

pub loop-rule-preserved : goal.loop-rule-preserved
loop-rule-preserved c =
    passes_at (λ r. names_in r.formula) (is_wanted c.args.wanted.now) c.args.rules.now c.loop-rule.rule-index c.rule-item.result c.loop-rule-test.true c.rule-item.is _ c.wanted_in.result
    c.loop-rule.invariant c.wanted_in.ensures c.in_default.not-Some
