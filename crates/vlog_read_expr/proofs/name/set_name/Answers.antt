use Rattle.std.proofs.Common.{refl}
use Rattle.std.proofs.lemmas.Result.{err_from_is_err_and}
use Rattle.vlog_read_expr.proofs.SignTests.{yes_by, no_by}
use Rattle.vlog_read_expr.proofs.NameSteps.{set_path_refuses, set_offset_refuses, set_followed, set_named}
use Rattle.vlog_read_expr.proofs.name.set_name.Goals as goal

pub returns-in_err-path : goal.returns-in_err-path
returns-in_err-path c =
    let p = err_from_is_err_and c.from_residual.result c.from_residual.ensures.1 in
    rw (p.1, p.2) (set_path_refuses _ _ _ c.in_err-path.ensures)

pub returns-in_err-offset : goal.returns-in_err-offset
returns-in_err-offset c =
    let p = err_from_is_err_and c.from_residual-in_err-offset.result c.from_residual-in_err-offset.ensures.1 in
    rw (p.1, p.2) (set_offset_refuses _ _ _ _ c.in_ok-path.ensures _ c.in_err-offset.ensures)

pub returns-then-not-ends_name : goal.returns-then-not-ends_name
returns-then-not-ends_name c = set_followed _ _ _ _ c.in_ok-path.ensures _ _ c.in_ok-offset.ensures (no_by _ c.ends_name.ensures c.if-not-ends_name.true)

pub returns : goal.returns
returns c = set_named _ _ _ _ c.in_ok-path.ensures _ _ c.in_ok-offset.ensures (yes_by _ c.ends_name.ensures c.if-not-ends_name.false) _ refl refl
