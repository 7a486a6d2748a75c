use Rattle.std.proofs.Common.{ℕ, ◌<◌}
use Rattle.vlog_tree_runs.specs.Cycles.{IsCycle}
use Rattle.test_judges.specs.Values.{cycle_at}
use Rattle.test_judges.proofs.runs.all_cycles.Given as goal

abbrev pub invariant-loop-i : goal.invariant-loop-i
invariant-loop-i l = (t : ℕ) → t < l.i → IsCycle l.flat (cycle_at l.flat.signals l.cycles t)
