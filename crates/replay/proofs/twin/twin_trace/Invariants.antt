use Rattle.std.proofs.Common.{ℕ, ◌<◌, ◌≤◌}
use Rattle.set_tree.specs.Parts.{property_at}
use Rattle.twin_tests_laws.specs.Laws.{property_of}
use Rattle.word_dag.specs.Names.{naming_from}
use Rattle.twin_tests.specs.Ordering.{line_of}
use Rattle.replay.specs.Windows.{ViolatesAt}
use Rattle.replay.proofs.twin.twin_trace.Given as goal

abbrev pub invariant-loop-n : goal.invariant-loop-n
invariant-loop-n l = (k : ℕ) → (property_at l.sound (property_of (line_of l.line))).length.low ≤ k → k < l.n → ViolatesAt l.sound (line_of l.line) (naming_from l.ob.nodes l.values) k → ⊥
