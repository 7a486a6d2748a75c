use Rattle.replay.proofs.Putting.{prints_less, prints_stopped}
use Rattle.replay.proofs.printing.put_row.Goals as goal

pub returns-in_err-put_cycle : goal.returns-in_err-put_cycle
returns-in_err-put_cycle g c = prints_less c.from_residual.result _ c.from_residual.ensures.1 c.in_err-put_cycle.ensures

pub returns-in_err-put_values : goal.returns-in_err-put_values
returns-in_err-put_values g c =
    let r = c.from_residual-in_err-put_values in
    prints_stopped r.result _ r.ensures.1 c.in_ok-put_cycle.ensures c.in_err-put_values.ensures
