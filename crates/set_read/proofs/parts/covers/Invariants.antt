use Rattle.std.proofs.Common.{◌≤◌, ◌-◌, length}
use Rattle.std.specs.Prelude.{codes}
use Rattle.vlog_tree.specs.Lists.{Sequence}
use Rattle.set_tree.specs.Spelling.{SpellsCover}
use Rattle.set_read.specs.Answers.{NoWord, flat}
use Rattle.set_read.proofs.Steps.{Rest}
use Rattle.set_read.proofs.parts.covers.Given as goal

abbrev pub invariant-loop-alloc : goal.invariant-loop-alloc
invariant-loop-alloc l =
    Sequence (SpellsCover l.tokens) l.at l.list l.end × (l.at ≤ l.end)
    × Rest flat (SpellsCover l.tokens) (NoWord (codes "cover") l.tokens) l.at l.end

abbrev pub decreases-loop-alloc : goal.decreases-loop-alloc
decreases-loop-alloc l = length l.tokens - l.end
