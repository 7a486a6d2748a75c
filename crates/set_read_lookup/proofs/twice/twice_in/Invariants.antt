use Rattle.std.proofs.Common.{◌≡◌, drop}
use Rattle.set_read_lookup.specs.Faults.{first_twice}
use Rattle.set_read_lookup.proofs.twice.twice_in.Given as goal

abbrev pub invariant-loop-at : goal.invariant-loop-at
invariant-loop-at l = first_twice (drop l.at l.names) ≡ first_twice l.names
