use Rattle.std.proofs.Common.{arith, refl}
use Rattle.vlog_read_spelling.proofs.Tokens.{kind_within}
use Rattle.vlog_read_expr.proofs.SignTests.{yes_by, no_by}
use Rattle.std.proofs.lemmas.Result.{err_from_is_err_and}
use Rattle.vlog_read.proofs.PartSteps.{plain_range, signed_range, plain_refuses, signed_refuses}
use Rattle.vlog_read.proofs.parts.read_shape.Goals as goal

pub returns-then-not-is_word : goal.returns-then-not-is_word
returns-then-not-is_word c = let a = c.in_ok-range.ensures in record { spelt = (_, refl, a.spelt); only = λ x k q. a.only x.range k (plain_range _ _ (no_by _ c.is_word.ensures c.if-not-is_word.true) x k q); height_is = a.height_is; low = a.low; past = a.past; within = a.within }

pub after-requires : goal.after-requires
after-requires c = kind_within _ _ _ (yes_by _ c.is_word.ensures c.if-not-is_word.false)

pub returns : goal.returns
returns c =
    let a = c.in_ok-range-2.ensures in
    record {
      spelt = (c.after.result, (yes_by _ c.is_word.ensures c.if-not-is_word.false, c.after.ensures), a.spelt);
      only = λ x k q. a.only x.range k (rw c.after.ensures (signed_range _ _ (yes_by _ c.is_word.ensures c.if-not-is_word.false) x k q));
      height_is = a.height_is;
      low = a.low;
      past = omega (arith, a.past, c.after.ensures);
      within = omega (arith, a.within, c.after.ensures, kind_within _ _ _ (yes_by _ c.is_word.ensures c.if-not-is_word.false));
    }

pub returns-in_err-range : goal.returns-in_err-range
returns-in_err-range c =
    let p = err_from_is_err_and c.from_residual.result c.from_residual.ensures.1 in
    rw (p.1, p.2) (plain_refuses _ _ _ (no_by _ c.is_word.ensures c.if-not-is_word.true) _ c.in_err-range.ensures)

pub returns-in_err-range-2 : goal.returns-in_err-range-2
returns-in_err-range-2 c =
    let p = err_from_is_err_and c.from_residual-in_err-range-2.result c.from_residual-in_err-range-2.ensures.1 in
    rw (p.1, p.2) (signed_refuses _ _ _ (yes_by _ c.is_word.ensures c.if-not-is_word.false) _ (rw c.after.ensures at c.in_err-range-2.ensures))
