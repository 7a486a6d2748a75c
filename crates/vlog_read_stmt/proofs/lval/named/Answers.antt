use Rattle.std.proofs.Common.{refl}
use Rattle.std.proofs.lemmas.Result.{err_from_is_err_and}
use Rattle.vlog_read_expr.proofs.SignTests.{yes_by, no_by}
use Rattle.vlog_read_stmt.proofs.LvalSteps.{name_spelt, name_refuses}
use Rattle.vlog_read_stmt.proofs.lval.named.Goals as goal

pub bracket-requires : goal.bracket-requires
bracket-requires c =
    record { here = c.in_ok-name.ensures.ok; «open» = rw c.after-next.ensures at (yes_by _ c.is_sign.ensures c.if-is_sign.true); positive = c.requires.positive; low = c.requires.low }

pub returns : goal.returns
returns c = name_spelt _ _ _ c.requires.positive _ c.in_ok-name.ensures.ok (rw c.after-next.ensures at (no_by _ c.is_sign.ensures c.if-is_sign.false)) _ refl c.after-next.ensures refl

pub returns-in_err-name : goal.returns-in_err-name
returns-in_err-name c =
    let p = err_from_is_err_and c.from_residual.result c.from_residual.ensures.1 in
    rw (p.1, p.2) (name_refuses _ _ _ c.requires.apart _ c.in_err-name.ensures.err)
