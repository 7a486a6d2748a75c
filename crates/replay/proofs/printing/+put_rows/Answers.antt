use Rattle.replay.proofs.Putting.{prints_less, prints_same, prints_then, split_rows}
use Rattle.replay.proofs.printing.+put_rows.Goals as goal

pub returns-in_err-put_row-in-len1-up : goal.returns-in_err-put_row-in-len1-up
returns-in_err-put_row-in-len1-up g t c =
    prints_same _ _ _ _ c.from_residual.result _ _ (split_rows c.args.before c.args.i c.args.rows.now _ _ c.in-len1-up.len_at_least c.row-item.is c.as_slice.ensures)
    (prints_less c.from_residual.result _ c.from_residual.ensures.1 c.in_err-put_row-in-len1-up.ensures)

pub returns-in_ok-put_row-in-len1-up : goal.returns-in_ok-put_row-in-len1-up
returns-in_ok-put_row-in-len1-up g t c =
    prints_same _ _ _ _ c.put_rows.result _ _ (split_rows c.args.before c.args.i c.args.rows.now _ _ c.in-len1-up.len_at_least c.row-item.is c.as_slice.ensures)
    (prints_then _ c.put_rows.result _ c.in_ok-put_row-in-len1-up.ensures c.put_rows.ensures)
