use Rattle.std.proofs.Common.{◌≡◌, drop}
use Rattle.signoff_places.specs.Tokens.{first_where}
use Rattle.signoff_places.specs.Sets.{covers}
use Rattle.signoff_places.proofs.sets.cover_in.Given as goal

abbrev pub invariant-loop-at : goal.invariant-loop-at
invariant-loop-at l = first_where (covers l.output) (drop l.at l.property) ≡ first_where (covers l.output) l.property
