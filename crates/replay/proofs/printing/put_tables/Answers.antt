use Rattle.replay.proofs.Putting.{prints_less, prints_stopped, prints_then}
use Rattle.replay.proofs.printing.put_tables.Goals as goal

pub returns-in_err-put-in-Some : goal.returns-in_err-put-in-Some
returns-in_err-put-in-Some g c =
    rw c.in-Some.is (prints_less c.from_residual.result _ c.from_residual.ensures.1 c.in_err-put-in-Some.ensures)

pub returns-in_err-put_table-in-Some : goal.returns-in_err-put_table-in-Some
returns-in_err-put_table-in-Some g c =
    let r = c.from_residual-in_err-put_table-in-Some in
    rw c.in-Some.is (prints_stopped r.result _ r.ensures.1 c.in_ok-put-in-Some.ensures c.in_err-put_table-in-Some.ensures)

pub returns-in_err-put-in-Some-2 : goal.returns-in_err-put-in-Some-2
returns-in_err-put-in-Some-2 g c =
    let r = c.from_residual-in_err-put-in-Some-2 in
    rw c.in-Some.is
    (prints_then _ r.result _ c.in_ok-put-in-Some.ensures
    (prints_stopped r.result _ r.ensures.1 c.in_ok-put_table-in-Some.ensures c.in_err-put-in-Some-2.ensures))

pub returns-in_ok-put-in-Some-2 : goal.returns-in_ok-put-in-Some-2
returns-in_ok-put-in-Some-2 g c =
    let r = c.put_table-in-Some-2.result in
    rw c.in-Some.is
    (prints_then _ r _ c.in_ok-put-in-Some.ensures
    (prints_then _ r _ c.in_ok-put_table-in-Some.ensures (prints_then _ r _ c.in_ok-put-in-Some-2.ensures c.put_table-in-Some-2.ensures)))
