use Rattle.std.proofs.Common.{◌≤◌, ◌-◌, length, map}
use Rattle.elab_flat_instances.specs.Unfolding.{scope_meant}
use Rattle.elab_flat_instances.proofs.Worklist.{IsUnfolding}
use Rattle.elab_flat_instances.proofs.unfold.unfold.Given as goal

abbrev pub invariant-loop-at : goal.invariant-loop-at
invariant-loop-at l = record {
  state : IsUnfolding l.modules l.top (map scope_meant l.scopes.items) l.at;
  few : length l.scopes.items ≤ 4096;
}

abbrev pub decreases-loop-at : goal.decreases-loop-at
decreases-loop-at l = 4096 - l.at
