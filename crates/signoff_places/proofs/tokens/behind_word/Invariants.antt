use Rattle.std.proofs.Common.{◌≡◌, drop}
use Rattle.signoff_places.specs.Tokens.{first_where, begins_with_both}
use Rattle.signoff_places.proofs.tokens.behind_word.Given as goal

abbrev pub invariant-loop-at : goal.invariant-loop-at
invariant-loop-at l = first_where (begins_with_both l.before l.word) (drop l.at l.tokens) ≡ first_where (begins_with_both l.before l.word) l.tokens
