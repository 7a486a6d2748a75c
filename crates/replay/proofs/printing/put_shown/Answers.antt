use Rattle.replay.proofs.Putting.{prints_less}
use Rattle.replay.proofs.printing.put_shown.Goals as goal

pub returns-in_err-put_starts : goal.returns-in_err-put_starts
returns-in_err-put_starts g c = prints_less c.from_residual.result _ c.from_residual.ensures.1 (rw c.as_slice.ensures at c.in_err-put_starts.ensures)
