use Rattle.std.proofs.Common.{◌≤◌, length}
use Rattle.helper_box.proofs.sampler.sample.Given as goal

abbrev pub invariant-loop : goal.invariant-loop
invariant-loop l = length l.ob.nodes ≤ l.table
