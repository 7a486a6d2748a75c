use Rattle.std.proofs.Common.{◌≡◌, drop}
use Rattle.signoff_places.specs.Sets.{first_given, again_in}
use Rattle.signoff_places.proofs.sets.next_again.Given as goal

abbrev pub invariant-loop-at : goal.invariant-loop-at
invariant-loop-at l = first_given (again_in l.name) (drop l.at l.set) ≡ first_given (again_in l.name) l.set
