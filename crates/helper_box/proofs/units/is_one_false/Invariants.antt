use Rattle.std.proofs.Common.{◌≡◌, length}
use Rattle.helper_box.proofs.units.is_one_false.Given as goal

abbrev pub invariant-loop-number : goal.invariant-loop-number
invariant-loop-number l = length l.trail.values.items ≡ l.cnf.vars
