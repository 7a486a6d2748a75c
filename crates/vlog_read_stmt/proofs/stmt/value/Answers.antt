use Rattle.std.proofs.Common.{refl}
use Rattle.vlog_read_spelling.proofs.Tokens.{kind_within}
use Rattle.std.proofs.lemmas.Result.{err_from_is_err_and}
use Rattle.vlog_read_expr.proofs.SignTests.{yes_by, no_by}
use Rattle.vlog_read_stmt.proofs.StmtSteps.{value_read, value_refuses, value_open}
use Rattle.vlog_read_stmt.proofs.stmt.value.Goals as goal

pub after-requires : goal.after-requires
after-requires c = kind_within _ _ _ (yes_by _ c.is_sign.ensures c.if-not-is_sign.false)

pub returns : goal.returns
returns c = value_read _ _ _ _ c.in_ok-value.ensures (yes_by _ c.is_sign.ensures c.if-not-is_sign.false) _ refl refl c.after.ensures

pub returns-in_err-value : goal.returns-in_err-value
returns-in_err-value c =
    let p = err_from_is_err_and c.from_residual.result c.from_residual.ensures.1 in
    rw (p.1, p.2) (value_refuses _ _ _ _ c.in_err-value.ensures)

pub returns-then-not-is_sign : goal.returns-then-not-is_sign
returns-then-not-is_sign c = value_open _ _ _ _ c.in_ok-value.ensures (no_by _ c.is_sign.ensures c.if-not-is_sign.true)
