use Rattle.std.proofs.Common.{◌≡◌, ◌++◌, drop, map}
use Rattle.vlog_tree_runs.specs.Places.{read}
use Rattle.mem_laws.specs.Spread.{word_store}
use Rattle.mem_flat.proofs.spreader.Spreader.word_stores.Given as goal

abbrev pub invariant-loop-word : goal.invariant-loop-word
invariant-loop-word l = l.all ++ map (word_store (read l.name) l.index l.right) (drop l.word-index l.words) ≡ map (word_store (read l.name) l.index l.right) l.words
