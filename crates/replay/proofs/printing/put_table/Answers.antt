use Rattle.replay.proofs.Putting.{prints_less, prints_then}
use Rattle.replay.proofs.printing.put_table.Goals as goal

pub returns-in_err-put_names : goal.returns-in_err-put_names
returns-in_err-put_names g c = prints_less c.from_residual.result _ c.from_residual.ensures.1 (rw c.as_slice.ensures at c.in_err-put_names.ensures)

pub returns : goal.returns
returns g c =
    prints_then _ c.put_rows.result _ (rw c.as_slice.ensures at c.in_ok-put_names.ensures) (rw c.as_slice-2.ensures at c.put_rows.ensures)
