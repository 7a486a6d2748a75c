-- Words of memories: as signals, at rest, and those that no block assigns.
use Rattle.std.specs.Prelude.{ℕ, true, false, not, List, ◌∷◌, map, filter}
use Rattle.vlog_tree.specs.declared.valuation.Entry.{Entry}
use Rattle.vlog_tree.specs.Valuation.{word_name}
use Rattle.vlog_tree_runs.specs.declared.flat.Signal.{Signal}
use Rattle.vlog_tree_runs.specs.Places.{Name, read, words_from, entry_of}
use Rattle.vlog_tree_runs.specs.Contents.{is_among}

-- word j of a memory
abbrev pub word_signal : Signal → ℕ → Signal
word_signal g j = record { name = (word_name (read g.name) j).text; width = g.width; low = 0; signed = false; reg = true; depth = 0 }

-- a signal and its words, each with the value 0
abbrev pub resting_word : Signal → Entry
resting_word g = entry_of g 0

abbrev pub resting : Signal → List Entry
resting g = resting_word g ∷ map resting_word (words_from g 0 g.depth)

-- of these names those that aren't among others
abbrev pub idle_of : List Name → List Name → List Name
idle_of names xs = filter (λ x. not (is_among names x)) xs
