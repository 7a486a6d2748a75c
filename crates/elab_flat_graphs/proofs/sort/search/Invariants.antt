use Rattle.std.proofs.Common.{◌≡◌, ◌≢◌, ◌<◌, ℕ, []}
use Rattle.elab_flat_graphs.specs.declared.search.Mark.TheVariants as m
use Rattle.elab_flat_graphs.specs.Graphs.{graph_of}
use Rattle.elab_flat_graphs.specs.Searching.{searched, Searches, mark_at}
use Rattle.elab_flat_graphs.proofs.sort.search.Given as goal

abbrev pub invariant-loop-v : goal.invariant-loop-v
invariant-loop-v l = (searched l.search ≡ graph_of l.graph) × Searches l.search × (l.search.path.items ≡ []) × ((u : ℕ) → u < l.v → mark_at l.search.marks.items u ≢ m.New)
