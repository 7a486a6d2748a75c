use Rattle.std.proofs.Common.{arith}
use Rattle.path_machine.proofs.Constraining.{rule_formed}
use Rattle.path_machine.proofs.failing.any_fails.Goals as goal

pub fails-requires-clause-formed : goal.fails-requires-clause-formed
fails-requires-clause-formed c =
    rule_formed c.args.set.now c.set.result.now c.as_slice-rule-items.result.now c.loop-rule.rule-index c.rule-item.result c.set.ensures.value c.as_slice-rule-items.ensures (record { sound = c.set.ensures.sound; formed = c.set.ensures.formed }) c.rule-item.is (omega arith)
