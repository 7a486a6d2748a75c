use Rattle.std.proofs.Common.{◌≡◌, drop, map}
use Rattle.std.specs.Prelude.{string_bytes}
use Rattle.signoff_words.specs.Options.{AreBounded, nothing, read}
use Rattle.signoff_words.specs.Seen.{seen}
use Rattle.signoff_words.proofs.reading.read.Given as goal

-- what was read so far, with what is left of the words
abbrev pub invariant-loop-word : goal.invariant-loop-word
invariant-loop-word l = record {
  is : read (map string_bytes (drop l.word-index l.words)) (seen l.reading) ≡ read (map string_bytes l.words) nothing;
  bounded : AreBounded l.reading.options;
}
