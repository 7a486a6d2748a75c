use Rattle.replay.proofs.Putting.{prints_less, prints_stopped, prints_then}
use Rattle.replay.proofs.printing.put_names.Goals as goal

pub returns-in_err-put : goal.returns-in_err-put
returns-in_err-put g c = prints_less c.from_residual.result _ c.from_residual.ensures.1 c.in_err-put.ensures

pub returns-in_err-put_words : goal.returns-in_err-put_words
returns-in_err-put_words g c =
    let r = c.from_residual-in_err-put_words in
    prints_stopped r.result _ r.ensures.1 c.in_ok-put.ensures c.in_err-put_words.ensures

pub returns : goal.returns
returns g c = prints_then _ c.put-2.result _ c.in_ok-put.ensures (prints_then _ c.put-2.result _ c.in_ok-put_words.ensures c.put-2.ensures)
