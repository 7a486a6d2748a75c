use Rattle.std.proofs.Common.{arith, refl}
use Rattle.vlog_read_expr.proofs.SignTests.{yes_by, no_by}
use Rattle.std.proofs.lemmas.Result.{err_from_is_err_and}
use Rattle.vlog_read.proofs.PartSteps.{no_range_only, some_range, some_range_refuses}
use Rattle.vlog_read.proofs.parts.maybe_range.Goals as goal

pub returns-then-not-is_sign : goal.returns-then-not-is_sign
returns-then-not-is_sign c = record { spelt = refl; only = no_range_only _ _ (no_by _ c.is_sign.ensures c.if-not-is_sign.true); height_is = refl; low = omega arith; past = omega arith; within = omega arith }

pub read_range-requires : goal.read_range-requires
read_range-requires c = record { here = yes_by _ c.is_sign.ensures c.if-not-is_sign.false; low = c.requires.low }

pub returns : goal.returns
returns c = let a = c.in_ok-range.ensures in record { spelt = a.spelt; only = λ x k q. let o = some_range _ _ (yes_by _ c.is_sign.ensures c.if-not-is_sign.false) x k q in a.only o.0 k o.1; height_is = a.height_is; low = a.low; past = a.past; within = a.within }

pub returns-in_err-range : goal.returns-in_err-range
returns-in_err-range c =
    let p = err_from_is_err_and c.from_residual.result c.from_residual.ensures.1 in
    rw (p.1, p.2) (some_range_refuses _ _ _ (yes_by _ c.is_sign.ensures c.if-not-is_sign.false) _ c.in_err-range.ensures)
