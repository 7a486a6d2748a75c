use Rattle.std.proofs.Common.{refl}
use Rattle.std.proofs.lemmas.Result.{err_from_is_err_and}
use Rattle.vlog_read_expr.proofs.SignTests.{yes_by, no_by}
use Rattle.vlog_read_expr.proofs.NameSteps.{word_name_refuses, word_followed, word_named}
use Rattle.vlog_read_expr.proofs.name.read_name.Goals as goal

pub returns-in_err-text : goal.returns-in_err-text
returns-in_err-text c =
    let p = err_from_is_err_and c.from_residual.result c.from_residual.ensures.1 in
    rw (c.if-set.false, p.1, p.2) (word_name_refuses _ _ _ c.in_err-text.ensures.err)

pub returns-then-not-ends_name : goal.returns-then-not-ends_name
returns-then-not-ends_name c = rw c.if-set.false (word_followed _ _ _ c.after-end.ensures (no_by _ c.ends_name.ensures c.if-not-ends_name.true))

pub returns : goal.returns
returns c = rw c.if-set.false (word_named _ _ _ c.after-end.ensures (yes_by _ c.ends_name.ensures c.if-not-ends_name.false) _ c.in_ok-text.ensures.ok refl)
