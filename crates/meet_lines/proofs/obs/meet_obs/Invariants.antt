use Rattle.std.specs.Vec.Iter.{into_iter_items}
use Rattle.meet_lines.proofs.Finding.{NameLoop}
use Rattle.meet_lines.proofs.obs.meet_obs.Given as goal

-- the obligations so far
abbrev pub invariant-loop-goal : goal.invariant-loop-goal
invariant-loop-goal l = NameLoop l.bound.design l.bound.set l.obs.items (into_iter_items l.goal-iterator)
