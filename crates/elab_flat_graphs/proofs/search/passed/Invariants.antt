use Rattle.std.proofs.Common.{length, ◌-◌, ◌≡◌, ◌≤◌, ◌<◌, ℕ}
use Rattle.std.specs.Prelude.{slice_index}
use Rattle.elab_flat_graphs.specs.declared.search.Mark.TheVariants as m
use Rattle.elab_flat_graphs.specs.Searching.{mark_at}
use Rattle.elab_flat_graphs.proofs.search.passed.Given as goal

abbrev pub invariant-loop-count : goal.invariant-loop-count
invariant-loop-count l = (l.count ≤ length l.successors) × ((k : ℕ) → k < l.count → mark_at l.marks (slice_index l.successors k) ≡ m.Done)

abbrev pub decreases-loop-count : goal.decreases-loop-count
decreases-loop-count l = length l.successors - l.count
