use Rattle.std.proofs.Common.{length, ◌-◌, ◌≡◌, ◌≤◌, drop}
use Rattle.elab_flat_graphs.specs.Searching.{from}
use Rattle.elab_flat_graphs.proofs.search.cycle_from.Given as goal

abbrev pub invariant-loop-start : goal.invariant-loop-start
invariant-loop-start l = (l.start ≤ length l.path) × (from l.path l.v ≡ from (drop l.start l.path) l.v)

abbrev pub decreases-loop-start : goal.decreases-loop-start
decreases-loop-start l = length l.path - l.start
