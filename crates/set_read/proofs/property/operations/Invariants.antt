use Rattle.std.proofs.Common.{◌≤◌, ◌-◌, length}
use Rattle.std.specs.Prelude.{codes}
use Rattle.vlog_tree.specs.Lists.{Sequence, highest}
use Rattle.set_tree.specs.Spelling.{SpellsOperation}
use Rattle.set_read.specs.Answers.{NoWord}
use Rattle.set_read.specs.Heights.{property_height}
use Rattle.set_read.proofs.Steps.{Rest}
use Rattle.set_read.proofs.property.operations.Given as goal

abbrev pub invariant-loop-alloc : goal.invariant-loop-alloc
invariant-loop-alloc l =
    Sequence (SpellsOperation l.tokens) l.at l.list l.end × (highest property_height l.list ≤ 499) × (l.at ≤ l.end)
    × Rest property_height (SpellsOperation l.tokens) (NoWord (codes "operation") l.tokens) l.at l.end

abbrev pub decreases-loop-alloc : goal.decreases-loop-alloc
decreases-loop-alloc l = length l.tokens - l.end
