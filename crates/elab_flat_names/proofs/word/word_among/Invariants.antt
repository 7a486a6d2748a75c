use Rattle.std.proofs.Common.{ℕ, ◌<◌, ◌++◌, codes}
use Rattle.std.specs.Prelude.{decimal}
use Rattle.vlog_tree_runs.specs.Places.{Among}
use Rattle.elab_flat_names.proofs.word.word_among.Given as goal

abbrev pub invariant-loop-index : goal.invariant-loop-index
invariant-loop-index l = (j : ℕ) → j < l.index → Among l.names (l.signal.name ++ codes "$" ++ decimal j) → ⊥
