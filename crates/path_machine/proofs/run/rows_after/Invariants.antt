use Rattle.std.proofs.Common.{◌≡◌}
use Rattle.path_machine.proofs.run.rows_after.Given as goal

-- the rows that were taken
abbrev pub invariant-loop-row : goal.invariant-loop-row
invariant-loop-row l = l.later ≡ l.yielded
