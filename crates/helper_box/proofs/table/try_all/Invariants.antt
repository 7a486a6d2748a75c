use Rattle.std.proofs.Common.{◌≤◌, length}
use Rattle.helper_box.proofs.table.try_all.Given as goal

abbrev pub invariant-loop-number : goal.invariant-loop-number
invariant-loop-number l = length l.ob.nodes ≤ l.table
