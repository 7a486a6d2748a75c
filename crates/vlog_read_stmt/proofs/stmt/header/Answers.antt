use Rattle.std.proofs.Common.{◌≡◌, ◌+◌, arith, refl}
use Rattle.vlog_read_spelling.proofs.Tokens.{kind_within}
use Rattle.std.proofs.lemmas.Result.{err_from_is_err_and}
use Rattle.vlog_read_expr.proofs.SignTests.{yes_by, no_by}
use Rattle.vlog_read_stmt.proofs.StmtSteps.{header_read, header_shut, header_refuses, header_open}
use Rattle.vlog_read_stmt.proofs.stmt.header.Goals as goal

pub after-requires : goal.after-requires
after-requires c = kind_within _ _ _ (yes_by _ c.is_sign.ensures c.if-not-is_sign.false)

pub after-requires-2 : goal.after-requires-2
after-requires-2 c = kind_within _ _ _ (yes_by _ c.is_sign-2.ensures c.if-not-is_sign-2.false)

pub returns : goal.returns
returns c =
    let q : c.after.result ≡ c.args.at + 2 = omega (arith, c.after.ensures, c.after-open.ensures) in
    header_read _ _ _ (rw c.after-open.ensures at (yes_by _ c.is_sign.ensures c.if-not-is_sign.false)) _ (rw q at c.in_ok-inner.ensures) (yes_by _ c.is_sign-2.ensures c.if-not-is_sign-2.false) _
    refl refl c.after-2.ensures

pub returns-then-not-is_sign : goal.returns-then-not-is_sign
returns-then-not-is_sign c = header_shut _ _ c.args.depth (rw c.after-open.ensures at (no_by _ c.is_sign.ensures c.if-not-is_sign.true))

pub returns-in_err-inner : goal.returns-in_err-inner
returns-in_err-inner c =
    let q : c.after.result ≡ c.args.at + 2 = omega (arith, c.after.ensures, c.after-open.ensures) in
    let p = err_from_is_err_and c.from_residual.result c.from_residual.ensures.1 in
    rw (p.1, p.2) (header_refuses _ _ _ _ (rw q at c.in_err-inner.ensures))

pub returns-then-not-is_sign-2 : goal.returns-then-not-is_sign-2
returns-then-not-is_sign-2 c =
    let q : c.after.result ≡ c.args.at + 2 = omega (arith, c.after.ensures, c.after-open.ensures) in
    header_open _ _ _ _ (rw q at c.in_ok-inner.ensures) (no_by _ c.is_sign-2.ensures c.if-not-is_sign-2.true)
