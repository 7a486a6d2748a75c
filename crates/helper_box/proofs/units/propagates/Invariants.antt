use Rattle.std.proofs.Common.{◌≡◌, length}
use Rattle.helper_box.proofs.units.propagates.Given as goal

abbrev pub invariant-loop-at : goal.invariant-loop-at
invariant-loop-at l = length l.trail.values.items ≡ l.cnf.vars
