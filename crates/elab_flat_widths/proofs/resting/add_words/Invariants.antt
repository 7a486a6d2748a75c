use Rattle.std.proofs.Common.{◌≡◌, ◌++◌, ◌-◌, map}
use Rattle.vlog_tree_runs.specs.Places.{words_from}
use Rattle.elab_flat_widths.specs.Ranges.{resting_word}
use Rattle.elab_flat_widths.proofs.resting.add_words.Given as goal

abbrev pub invariant-loop-index : goal.invariant-loop-index
invariant-loop-index l = l.rest ++ map resting_word (words_from l.signal l.index (l.signal.depth - l.index)) ≡ l.initial.rest ++ map resting_word (words_from l.signal 0 l.signal.depth)
