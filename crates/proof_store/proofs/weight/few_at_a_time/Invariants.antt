use Rattle.std.proofs.Common.{◌≡◌, ◌-◌, ◌≤◌, ◌++◌, drop, length}
use Rattle.proof_store.proofs.Pieces.{joined}
use Rattle.proof_store.proofs.weight.few_at_a_time.Given as goal

-- the pieces so far, and what is left
abbrev pub invariant-loop-at : goal.invariant-loop-at
invariant-loop-at g l = record {
  within : l.at ≤ length l.all;
  cut : joined l.pieces.items ++ drop l.at l.all ≡ l.all;
}

abbrev pub decreases-loop-at : goal.decreases-loop-at
decreases-loop-at g l = length l.all - l.at
