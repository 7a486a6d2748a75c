use Rattle.std.proofs.Common.{arith, refl}
use Rattle.vlog_read_spelling.proofs.Tokens.{kind_within}
use Rattle.std.proofs.lemmas.Result.{err_from_is_err_and}
use Rattle.vlog_read_expr.proofs.SignTests.{yes_by, no_by}
use Rattle.vlog_read_stmt.proofs.StmtSteps.{name_lacks}
use Rattle.vlog_read_stmt.proofs.stmt.block_name.Goals as goal

pub after-colon-requires : goal.after-colon-requires
after-colon-requires c = kind_within _ _ _ (yes_by _ c.is_sign.ensures c.if-not-is_sign.false)

pub returns : goal.returns
returns c = (yes_by _ c.is_sign.ensures c.if-not-is_sign.false, rw c.after-colon.ensures at c.in_ok-name.ensures.ok, omega (arith, c.after.ensures, c.after-colon.ensures))

pub returns-then-not-is_sign : goal.returns-then-not-is_sign
returns-then-not-is_sign c = (refl, no_by _ c.is_sign.ensures c.if-not-is_sign.true)

pub returns-in_err-name : goal.returns-in_err-name
returns-in_err-name c =
    let p = err_from_is_err_and c.from_residual.result c.from_residual.ensures.1 in
    rw (p.1, p.2) (name_lacks _ _ (yes_by _ c.is_sign.ensures c.if-not-is_sign.false) _ (rw c.after-colon.ensures at c.in_err-name.ensures.err))
