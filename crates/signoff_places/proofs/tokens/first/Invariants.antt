use Rattle.std.proofs.Common.{◌≡◌, drop}
use Rattle.signoff_places.specs.Tokens.{first_where, begins}
use Rattle.signoff_places.proofs.tokens.first.Given as goal

abbrev pub invariant-loop-at : goal.invariant-loop-at
invariant-loop-at l = first_where (begins l.word) (drop l.at l.tokens) ≡ first_where (begins l.word) l.tokens
