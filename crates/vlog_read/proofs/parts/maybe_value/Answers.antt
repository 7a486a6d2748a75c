use Rattle.std.proofs.Common.{arith, refl}
use Rattle.std.proofs.lemmas.Result.{err_from_is_err_and}
use Rattle.vlog_read_expr.proofs.SignTests.{yes_by, no_by}
use Rattle.vlog_read.proofs.PartSteps.{no_value_only, some_value, some_value_refuses}
use Rattle.vlog_read.proofs.parts.maybe_value.Goals as goal

pub returns-then-not-is_sign : goal.returns-then-not-is_sign
returns-then-not-is_sign c = record { spelt = refl; only = no_value_only _ _ (no_by _ c.is_sign.ensures c.if-not-is_sign.true); height_is = refl; low = omega arith; past = omega arith; within = omega arith }

pub returns : goal.returns
returns c = let a = c.in_ok-value.ensures in record { spelt = a.spelt; only = λ x k q. let o = some_value _ _ (yes_by _ c.is_sign.ensures c.if-not-is_sign.false) x k q in a.only o.0 k o.1; height_is = a.height_is; low = a.low; past = a.past; within = a.within }

pub returns-in_err-value : goal.returns-in_err-value
returns-in_err-value c =
    let p = err_from_is_err_and c.from_residual.result c.from_residual.ensures.1 in
    rw (p.1, p.2) (some_value_refuses _ _ _ (yes_by _ c.is_sign.ensures c.if-not-is_sign.false) _ c.in_err-value.ensures)
