use Rattle.std.proofs.Common.{◌≡◌, take}
use Rattle.replay_waves.proofs.line.row_of.Given as goal

-- the values so far
abbrev pub invariant-loop-value : goal.invariant-loop-value
invariant-loop-value l = l.copy ≡ take l.value-index l.row
