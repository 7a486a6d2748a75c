use Rattle.std.proofs.lemmas.Result.{err_from_is_err_and}
use Rattle.vlog_read_expr.proofs.SignTests.{no_by}
use Rattle.vlog_read_stmt.proofs.StmtSteps.{left_refuses, no_sign}
use Rattle.vlog_read_stmt.proofs.stmt.assignment.Goals as goal

pub returns-in_err-left : goal.returns-in_err-left
returns-in_err-left c =
    let p = err_from_is_err_and c.from_residual.result c.from_residual.ensures.1 in
    rw (p.1, p.2) (left_refuses _ _ _ c.requires.positive c.requires.other _ c.in_err-left.ensures)

pub returns-else-is_sign-2 : goal.returns-else-is_sign-2
returns-else-is_sign-2 c =
    no_sign _ _ _ c.requires.positive c.requires.other _ c.in_ok-left.ensures (no_by _ c.is_sign.ensures c.if-is_sign.false) (no_by _ c.is_sign-else-is_sign.ensures c.if-is_sign-2.false)
