use Rattle.std.proofs.Common.{◌≡◌, ◌++◌, drop, map}
use Rattle.mem_faults.specs.Held.{resting_word}
use Rattle.mem_faults.proofs.rest.add_words.Given as goal

abbrev pub invariant-loop-word : goal.invariant-loop-word
invariant-loop-word l = l.rest ++ map resting_word (drop l.word-index l.words) ≡ l.initial.rest ++ map resting_word l.words
