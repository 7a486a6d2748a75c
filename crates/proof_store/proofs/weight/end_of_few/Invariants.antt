use Rattle.std.proofs.Common.{◌-◌, ◌<◌, ◌≤◌}
use Rattle.proof_store.proofs.weight.end_of_few.Given as goal

-- past the first one, and no further than the last
abbrev pub invariant-loop-end : goal.invariant-loop-end
invariant-loop-end g l = record {
  more : l.at < l.end;
  within : l.end ≤ l.most;
}

abbrev pub decreases-loop-end : goal.decreases-loop-end
decreases-loop-end g l = l.most - l.end
