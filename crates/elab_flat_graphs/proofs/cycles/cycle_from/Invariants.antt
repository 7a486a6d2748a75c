use Rattle.std.proofs.Common.{◌≡◌}
use Rattle.std.specs.Prelude.{sum_by}
use Rattle.elab_flat_graphs.specs.Search.{IsSearch}
use Rattle.elab_flat_graphs.proofs.cycles.cycle_from.Given as goal

abbrev pub invariant-loop-node : goal.invariant-loop-node
invariant-loop-node l = record {
  search : IsSearch l.graph l.search;
  start : l.search.start ≡ l.fn.start;
}

abbrev pub decreases-loop-node : goal.decreases-loop-node
decreases-loop-node l = sum_by (λ x. x) l.search.left.items
