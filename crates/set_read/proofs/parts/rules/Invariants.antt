use Rattle.std.proofs.Common.{◌≤◌, ◌-◌, length}
use Rattle.vlog_tree.specs.Lists.{Sequence, highest}
use Rattle.set_tree.specs.Spelling.{SpellsRule}
use Rattle.set_read.specs.Answers.{NoRule}
use Rattle.set_read.specs.Heights.{rule_height}
use Rattle.set_read.proofs.Steps.{Rest}
use Rattle.set_read.proofs.parts.rules.Given as goal

abbrev pub invariant-loop-kind : goal.invariant-loop-kind
invariant-loop-kind l =
    Sequence (SpellsRule l.tokens) l.at l.list l.end × (highest rule_height l.list ≤ 499) × (l.at ≤ l.end)
    × Rest rule_height (SpellsRule l.tokens) (NoRule l.tokens) l.at l.end

abbrev pub decreases-loop-kind : goal.decreases-loop-kind
decreases-loop-kind l = length l.tokens - l.end
