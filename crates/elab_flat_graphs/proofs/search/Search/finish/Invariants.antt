use Rattle.std.proofs.Common.{◌≡◌}
use Rattle.elab_flat_graphs.specs.Searching.{searched, Searches, KeepsKnown, all_changes}
use Rattle.elab_flat_graphs.proofs.search.Search.finish.Given as goal

abbrev pub invariant-loop-v : goal.invariant-loop-v
invariant-loop-v l = (searched l.self ≡ searched l.initial.self) × Searches l.self × KeepsKnown l.initial.self.marks.items l.self.marks.items

abbrev pub decreases-loop-v : goal.decreases-loop-v
decreases-loop-v l = all_changes l.self.marks.items
