use Rattle.std.proofs.Common.{length}
use Rattle.replay.proofs.printing.+put_rows.Given as goal

-- what is left
abbrev pub decreases-put_rows : goal.decreases-put_rows
decreases-put_rows g l = length l.rows.now
