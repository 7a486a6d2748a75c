use Rattle.std.proofs.Common.{◌≡◌, map, take}
use Rattle.twin_tests.specs.Ordering.{line_of as set_line_of}
use Rattle.desk_core_goals.proofs.goals.told_of_set.Given as goal

-- the lines so far
abbrev pub invariant-loop-line : goal.invariant-loop-line
invariant-loop-line l = l.all.items ≡ map set_line_of (take l.line-index l.lines)
