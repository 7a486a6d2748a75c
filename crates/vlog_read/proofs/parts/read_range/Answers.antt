use Rattle.std.proofs.Common.{arith, sym, ◌∙◌}
use Rattle.vlog_read_spelling.proofs.Tokens.{kind_within}
use Rattle.vlog_read_expr.proofs.SignTests.{yes_by, no_by}
use Rattle.std.proofs.lemmas.Result.{err_from_is_err_and}
use Rattle.vlog_read.proofs.Steps.{tree_bounds}
use Rattle.vlog_read.proofs.PartSteps.{high_refuses, range_no_colon, low_refuses, range_open, range_only}
use Rattle.vlog_read.proofs.parts.read_range.Goals as goal

pub after-requires : goal.after-requires
after-requires c = kind_within _ _ _ c.requires.here

pub after-requires-2 : goal.after-requires-2
after-requires-2 c = kind_within _ _ _ (yes_by _ c.is_sign.ensures c.if-not-is_sign.false)

pub after-requires-3 : goal.after-requires-3
after-requires-3 c = kind_within _ _ _ (yes_by _ c.is_sign-2.ensures c.if-not-is_sign-2.false)

pub returns : goal.returns
returns c =
    let a = tree_bounds _ _ _ _ c.in_ok-high.ensures in
    let b = tree_bounds _ _ _ _ c.in-Ok.ensures in
    record {
      spelt = (
        c.in_ok-high.high.end,
        c.in-Ok.low.end,
        c.requires.here,
        rw c.after.ensures at c.in_ok-high.ensures.reads.spelt,
        yes_by _ c.is_sign.ensures c.if-not-is_sign.false,
        rw c.after-2.ensures at c.in-Ok.ensures.reads.spelt,
        yes_by _ c.is_sign-2.ensures c.if-not-is_sign-2.false,
        c.after-3.ensures,
      );
      only = λ x k q. range_only _ _ _ _ (rw c.after.ensures at c.in_ok-high.ensures) _ (rw c.after-2.ensures at c.in-Ok.ensures) x k q ∙ sym c.after-3.ensures;
      height_is = omega (arith, c.max-height.ensures, c.in_ok-high.ensures.height_is, c.in-Ok.ensures.height_is);
      low = omega (arith, c.max-height.ensures, c.in_ok-high.ensures.low, c.in-Ok.ensures.low);
      past = omega (arith, a.0, b.0, c.after.ensures, c.after-2.ensures, c.after-3.ensures);
      within = omega (arith, kind_within _ _ _ (yes_by _ c.is_sign-2.ensures c.if-not-is_sign-2.false), c.after-3.ensures);
    }

pub returns-in_err-high : goal.returns-in_err-high
returns-in_err-high c =
    let p = err_from_is_err_and c.from_residual.result c.from_residual.ensures.1 in
    rw (p.1, p.2) (high_refuses _ _ _ _ (rw c.after.ensures at c.in_err-high.ensures))

pub returns-then-not-is_sign : goal.returns-then-not-is_sign
returns-then-not-is_sign c =
    rw c.dropping.ensures (range_no_colon _ _ _ _ (rw c.after.ensures at c.in_ok-high.ensures) (no_by _ c.is_sign.ensures c.if-not-is_sign.true))

pub returns-in-Err : goal.returns-in-Err
returns-in-Err c =
    rw c.dropping-in-Err.ensures (low_refuses _ _ _ _ (rw c.after.ensures at c.in_ok-high.ensures) _ (rw c.after-2.ensures at c.in-Err.ensures))

pub returns-then-not-is_sign-2 : goal.returns-then-not-is_sign-2
returns-then-not-is_sign-2 c =
    rw c.dropping-then-not-is_sign-2.ensures (range_open _ _ _ _ (rw c.after.ensures at c.in_ok-high.ensures) _ (rw c.after-2.ensures at c.in-Ok.ensures) (no_by _ c.is_sign-2.ensures c.if-not-is_sign-2.true))
