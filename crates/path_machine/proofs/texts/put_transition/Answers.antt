use Rattle.std.proofs.Common.{append_assoc}
use Rattle.replay.proofs.Putting.{prints_less, prints_stopped, prints_then}
use Rattle.path_machine.proofs.texts.put_transition.Goals as goal

pub returns-in_err-put : goal.returns-in_err-put
returns-in_err-put g c = prints_less c.from_residual.result _ c.from_residual.ensures.1 c.in_err-put.ensures

pub returns-in_err-put_length : goal.returns-in_err-put_length
returns-in_err-put_length g c =
    let r = c.from_residual-in_err-put_length in
    simp append_assoc (prints_stopped r.result _ r.ensures.1 c.in_ok-put.ensures c.in_err-put_length.ensures)

pub returns-in_err-put-2 : goal.returns-in_err-put-2
returns-in_err-put-2 g c =
    let r = c.from_residual-in_err-put-2 in
    simp append_assoc
    (prints_then _ r.result _ c.in_ok-put.ensures (prints_stopped r.result _ r.ensures.1 c.in_ok-put_length.ensures c.in_err-put-2.ensures))

pub returns-in_err-put_names : goal.returns-in_err-put_names
returns-in_err-put_names g c =
    let r = c.from_residual-in_err-put_names in
    simp append_assoc
    (prints_then _ r.result _ c.in_ok-put.ensures
    (prints_then _ r.result _ c.in_ok-put_length.ensures
    (prints_stopped r.result _ r.ensures.1 c.in_ok-put-2.ensures (rw c.as_slice.ensures at c.in_err-put_names.ensures))))

pub returns : goal.returns
returns g c =
    let r = c.put-3.result in
    simp append_assoc
    (prints_then _ r _ c.in_ok-put.ensures
    (prints_then _ r _ c.in_ok-put_length.ensures
    (prints_then _ r _ c.in_ok-put-2.ensures (prints_then _ r _ (rw c.as_slice.ensures at c.in_ok-put_names.ensures) c.put-3.ensures))))
