use Rattle.std.proofs.Common.{ℕ, ◌+◌, ◌<◌, ◌≤◌}
use Rattle.vlog_tree_runs.specs.Cycles.{Follows}
use Rattle.test_judges.specs.Values.{cycle_at}
use Rattle.test_judges.proofs.runs.all_follow.Given as goal

abbrev pub invariant-loop-i : goal.invariant-loop-i
invariant-loop-i l = (1 ≤ l.i) × ((t : ℕ) → t + 1 < l.i → Follows l.flat (cycle_at l.flat.signals l.cycles t) (cycle_at l.flat.signals l.cycles (t + 1)))
