use Rattle.std.proofs.Common.{◌≡◌, ◌<◌, ℕ, false, get_or}
use Rattle.set_tree.specs.declared.line.Line.{Line}
use Rattle.desk_core_goals.specs.Asked.{has_name}
use Rattle.desk_core_goals.proofs.goals.number_of.Given as goal

-- none so far has the name
abbrev pub invariant-loop-number : goal.invariant-loop-number
invariant-loop-number l = (k : ℕ) (d : Line) → k < l.number → has_name l.set l.name (get_or l.lines k d) ≡ false
