use Rattle.std.proofs.Common.{◌≡◌, map, take}
use Rattle.unroll.specs.Named.{line_of as design_line_of}
use Rattle.desk_core_goals.proofs.goals.told_of_design.Given as goal

-- the lines so far
abbrev pub invariant-loop-line : goal.invariant-loop-line
invariant-loop-line l = l.all.items ≡ map design_line_of (take l.line-index l.lines)
