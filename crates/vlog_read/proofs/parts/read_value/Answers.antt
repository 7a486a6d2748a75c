use Rattle.std.proofs.Common.{arith}
use Rattle.vlog_read_spelling.proofs.Tokens.{kind_within}
use Rattle.vlog_read_expr.proofs.SignTests.{yes_by, no_by}
use Rattle.std.proofs.lemmas.Result.{err_from_is_err_and}
use Rattle.vlog_read.proofs.Steps.{tree_bounds}
use Rattle.vlog_read.proofs.PartSteps.{value_missing, value_refuses, value_only}
use Rattle.vlog_read.proofs.parts.read_value.Goals as goal

pub after-requires : goal.after-requires
after-requires c = kind_within _ _ _ (yes_by _ c.is_sign.ensures c.if-not-is_sign.false)

pub returns : goal.returns
returns c =
    let a = tree_bounds _ _ _ _ c.in_ok-read.ensures in
    record {
      spelt = (yes_by _ c.is_sign.ensures c.if-not-is_sign.false, rw c.after.ensures at c.in_ok-read.ensures.reads.spelt);
      only = value_only _ _ _ _ (rw c.after.ensures at c.in_ok-read.ensures);
      height_is = c.in_ok-read.ensures.height_is;
      low = c.in_ok-read.ensures.low;
      past = omega (arith, a.0, c.after.ensures);
      within = omega (arith, a.1);
    }

pub returns-then-not-is_sign : goal.returns-then-not-is_sign
returns-then-not-is_sign c = value_missing _ _ (no_by _ c.is_sign.ensures c.if-not-is_sign.true)

pub returns-in_err-read : goal.returns-in_err-read
returns-in_err-read c =
    let p = err_from_is_err_and c.from_residual.result c.from_residual.ensures.1 in
    rw (p.1, p.2) (value_refuses _ _ _ _ (rw c.after.ensures at c.in_err-read.ensures))
