use Rattle.std.proofs.Common.{true, ◌≤◌, ◌-◌, length}
use Rattle.vlog_tree.specs.Lists.{Sequence, highest}
use Rattle.vlog_tree.specs.Spelling.{Spells, height}
use Rattle.set_tree.specs.Spelling.{Clause}
use Rattle.set_read.specs.Answers.{NoWord}
use Rattle.set_read.proofs.Steps.{Rest}
use Rattle.set_read.proofs.parts.clauses.Given as goal

abbrev pub invariant-loop-alloc : goal.invariant-loop-alloc
invariant-loop-alloc l =
    Sequence (Clause l.tokens l.keyword (Spells true l.tokens)) l.at l.list l.end × (highest height l.list ≤ 498) × (l.at ≤ l.end)
    × Rest height (Clause l.tokens l.keyword (Spells true l.tokens)) (NoWord l.keyword l.tokens) l.at l.end

abbrev pub decreases-loop-alloc : goal.decreases-loop-alloc
decreases-loop-alloc l = length l.tokens - l.end
