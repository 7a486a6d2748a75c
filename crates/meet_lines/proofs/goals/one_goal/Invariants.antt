use Rattle.std.specs.Vec.Iter.{into_iter_items}
use Rattle.meet_lines.proofs.Finding.{FindLoop}
use Rattle.meet_lines.proofs.goals.one_goal.Given as goal

-- the goals before
abbrev pub invariant-loop-goal : goal.invariant-loop-goal
invariant-loop-goal l = FindLoop l.bound.design l.bound.set l.name (into_iter_items l.goal-iterator)
