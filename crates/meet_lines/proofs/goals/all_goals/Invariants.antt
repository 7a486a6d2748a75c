use Rattle.std.proofs.Common.{take}
use Rattle.meet_lines.proofs.Obtaining.{GoalsLoop}
use Rattle.meet_lines.proofs.goals.all_goals.Given as goal

-- the goals so far
abbrev pub invariant-loop-line : goal.invariant-loop-line
invariant-loop-line l = GoalsLoop l.bound.design l.bound.set l.dag l.segments (take l.line-index l.line-items) l.goals.items
