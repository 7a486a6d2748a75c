use Rattle.std.proofs.Common.{true, ◌<◌, ◌-◌, length}
use Rattle.vlog_tree.specs.Lists.{Comma, Separated}
use Rattle.vlog_tree.specs.Spelling.{IsNamed}
use Rattle.set_read.specs.Answers.{Semicolon, flat}
use Rattle.set_read.proofs.Steps.{Left}
use Rattle.set_read.proofs.tokens.names.Given as goal

abbrev pub invariant-loop-alloc : goal.invariant-loop-alloc
invariant-loop-alloc l = Separated (Comma l.tokens) (IsNamed true l.tokens) l.at l.list l.end × (l.at < l.end) × Left flat (Comma l.tokens) (IsNamed true l.tokens) (Semicolon l.tokens) l.at l.end

abbrev pub decreases-loop-alloc : goal.decreases-loop-alloc
decreases-loop-alloc l = length l.tokens - l.end
