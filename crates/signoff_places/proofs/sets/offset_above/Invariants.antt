use Rattle.std.proofs.Common.{◌≡◌, drop}
use Rattle.signoff_places.specs.Tokens.{first_where}
use Rattle.signoff_places.specs.Sets.{begins_above}
use Rattle.signoff_places.proofs.sets.offset_above.Given as goal

abbrev pub invariant-loop-at : goal.invariant-loop-at
invariant-loop-at l = first_where (begins_above l.bound) (drop l.at l.tokens) ≡ first_where (begins_above l.bound) l.tokens
