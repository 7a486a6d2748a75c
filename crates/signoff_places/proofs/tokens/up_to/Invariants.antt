use Rattle.std.proofs.Common.{◌≡◌, ◌+◌, drop}
use Rattle.std.specs.List.{position_or_len}
use Rattle.signoff_places.specs.Tokens.{is_word}
use Rattle.signoff_places.proofs.tokens.up_to.Given as goal

abbrev pub invariant-loop-at : goal.invariant-loop-at
invariant-loop-at l = l.at + position_or_len (is_word l.word) (drop l.at l.tokens) ≡ position_or_len (is_word l.word) l.tokens
