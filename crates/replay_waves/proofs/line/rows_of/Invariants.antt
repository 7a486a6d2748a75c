use Rattle.std.proofs.Common.{◌≡◌, take}
use Rattle.replay_waves.proofs.line.rows_of.Given as goal

-- the rows so far
abbrev pub invariant-loop-row : goal.invariant-loop-row
invariant-loop-row l = l.rows ≡ take l.row-index l.trace.rows
