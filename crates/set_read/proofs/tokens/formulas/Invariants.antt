use Rattle.std.proofs.Common.{true, ◌≤◌, ◌<◌, ◌-◌, length}
use Rattle.vlog_tree.specs.Lists.{Comma, Separated, highest}
use Rattle.vlog_tree.specs.Spelling.{Spells, height}
use Rattle.set_read.specs.Answers.{Semicolon}
use Rattle.set_read.proofs.Steps.{Left}
use Rattle.set_read.proofs.tokens.formulas.Given as goal

abbrev pub invariant-loop-alloc : goal.invariant-loop-alloc
invariant-loop-alloc l =
    Separated (Comma l.tokens) (Spells true l.tokens) l.at l.list l.end × (highest height l.list ≤ 498) × (l.at < l.end)
    × Left height (Comma l.tokens) (Spells true l.tokens) (Semicolon l.tokens) l.at l.end

abbrev pub decreases-loop-alloc : goal.decreases-loop-alloc
decreases-loop-alloc l = length l.tokens - l.end
