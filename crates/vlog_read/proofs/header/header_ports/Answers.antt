use Rattle.std.proofs.Common.{inl, inr, arith, refl, sym, ◌∙◌}
use Rattle.vlog_read_spelling.proofs.Tokens.{kind_within}
use Rattle.vlog_read_expr.proofs.SignTests.{yes_by, no_by}
use Rattle.std.proofs.lemmas.Result.{err_from_is_err_and}
use Rattle.vlog_read.proofs.HeaderSteps.{no_header, empty_header, header_refuses, header_open, header_only}
use Rattle.vlog_read.proofs.header.header_ports.Goals as goal

pub returns-then-not-is_sign : goal.returns-then-not-is_sign
returns-then-not-is_sign c = record { spelt = inl refl; only = no_header _ _ (no_by _ c.is_sign.ensures c.if-not-is_sign.true); height_is = refl; low = omega arith; past = omega arith; within = omega arith }

pub after-open-requires : goal.after-open-requires
after-open-requires c = kind_within _ _ _ (yes_by _ c.is_sign.ensures c.if-not-is_sign.false)

pub after-requires : goal.after-requires
after-requires c = kind_within _ _ _ (yes_by _ c.is_sign-2.ensures c.if-is_sign.true)

pub returns-then-is_sign : goal.returns-then-is_sign
returns-then-is_sign c = record {
  spelt = inr (yes_by _ c.is_sign.ensures c.if-not-is_sign.false, rw c.after-open.ensures at (yes_by _ c.is_sign-2.ensures c.if-is_sign.true), omega (arith, c.after.ensures, c.after-open.ensures));
  only = λ x k q. omega (arith, empty_header _ _ (yes_by _ c.is_sign.ensures c.if-not-is_sign.false) (rw c.after-open.ensures at (yes_by _ c.is_sign-2.ensures c.if-is_sign.true)) x k q, c.after.ensures, c.after-open.ensures);
  height_is = refl;
  low = omega arith;
  past = omega (arith, c.after.ensures, c.after-open.ensures);
  within = omega (arith, c.after.ensures, kind_within _ _ _ (yes_by _ c.is_sign-2.ensures c.if-is_sign.true));
}

pub after-requires-2 : goal.after-requires-2
after-requires-2 c = kind_within _ _ _ (yes_by _ c.is_sign-3.ensures c.if-not-is_sign-2.false)

pub returns : goal.returns
returns c =
    let a = c.in_ok-ports.ensures in
    record {
      spelt = (_, yes_by _ c.is_sign.ensures c.if-not-is_sign.false, rw c.after-open.ensures at a.spelt, yes_by _ c.is_sign-3.ensures c.if-not-is_sign-2.false, c.after-2.ensures);
      only = λ x k q. header_only _ _ (yes_by _ c.is_sign.ensures c.if-not-is_sign.false) _ (rw c.after-open.ensures at (no_by _ c.is_sign-2.ensures c.if-is_sign.false)) _ (rw c.after-open.ensures at a) x k q ∙ sym c.after-2.ensures;
      height_is = a.height_is;
      low = a.low;
      past = omega (arith, a.past, c.after-open.ensures, c.after-2.ensures);
      within = omega (arith, c.after-2.ensures, kind_within _ _ _ (yes_by _ c.is_sign-3.ensures c.if-not-is_sign-2.false));
    }

pub returns-in_err-ports : goal.returns-in_err-ports
returns-in_err-ports c =
    let p = err_from_is_err_and c.from_residual.result c.from_residual.ensures.1 in
    rw (p.1, p.2) (header_refuses _ _ (yes_by _ c.is_sign.ensures c.if-not-is_sign.false) _ (rw c.after-open.ensures at (no_by _ c.is_sign-2.ensures c.if-is_sign.false)) _ (rw c.after-open.ensures at c.in_err-ports.ensures))

pub returns-then-not-is_sign-2 : goal.returns-then-not-is_sign-2
returns-then-not-is_sign-2 c = header_open _ _ (yes_by _ c.is_sign.ensures c.if-not-is_sign.false) _ (rw c.after-open.ensures at (no_by _ c.is_sign-2.ensures c.if-is_sign.false)) _ (rw c.after-open.ensures at c.in_ok-ports.ensures) (no_by _ c.is_sign-3.ensures c.if-not-is_sign-2.true)
