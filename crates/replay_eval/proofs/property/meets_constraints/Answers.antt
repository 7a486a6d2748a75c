use Rattle.std.proofs.Common.{arith}
use Rattle.replay_eval.proofs.Properties.{rule_formed}
use Rattle.replay_eval.proofs.property.meets_constraints.Goals as goal

pub holds_throughout-requires-clause-formed : goal.holds_throughout-requires-clause-formed
holds_throughout-requires-clause-formed c =
    rule_formed c.args.set.now c.set.result.now c.as_slice-rule-items.result.now c.loop-rule.rule-index c.rule-item.result c.set.ensures.value c.as_slice-rule-items.ensures c.set.ensures.sound c.set.ensures.formed c.rule-item.is (omega arith)
