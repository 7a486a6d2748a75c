use Rattle.std.proofs.Common.{◌+◌, ◌≡◌, arith}
use Rattle.vlog_read_spelling.proofs.Tokens.{kind_within}
use Rattle.vlog_read_expr.proofs.SignTests.{yes_by, no_by}
use Rattle.std.proofs.lemmas.Result.{err_from_is_err_and}
use Rattle.vlog_read.proofs.Steps.{stmt_bounds}
use Rattle.vlog_read.proofs.ItemSteps.{always_shut, events_refuse, body_refuses, always_only}
use Rattle.vlog_read.proofs.item.always.Goals as goal

pub after-sign-requires : goal.after-sign-requires
after-sign-requires c = kind_within _ _ _ c.requires.here

pub after-requires : goal.after-requires
after-requires c = kind_within _ _ _ (yes_by _ c.is_sign.ensures c.if-not-is_sign.false)

pub returns : goal.returns
returns c =
    let a = c.in_ok-events.ensures in
    let s = stmt_bounds _ _ _ _ c.in-Ok.ensures in
    let q : c.after.result ≡ c.args.at + 2 = omega (arith, c.after.ensures, c.after-sign.ensures) in (
      record {
        spelt = (_, c.requires.here, rw c.after-sign.ensures at (yes_by _ c.is_sign.ensures c.if-not-is_sign.false), rw q at a.spelt, c.in-Ok.ensures.reads.spelt);
        only = λ x k u. always_only _ _ _ c.requires.here _ (rw q at a) _ c.in-Ok.ensures x k u;
        height_is = omega (arith, c.in-Ok.ensures.height_is);
        low = omega (arith, c.in-Ok.ensures.low, c.requires.positive);
        past = omega (arith, a.past, q, s.0);
        within = omega (arith, s.1);
      },
      omega (arith, a.past, q, s.0),
    )

pub returns-then-not-is_sign : goal.returns-then-not-is_sign
returns-then-not-is_sign c = always_shut _ _ c.args.depth c.requires.here (rw c.after-sign.ensures at (no_by _ c.is_sign.ensures c.if-not-is_sign.true))

pub returns-in_err-events : goal.returns-in_err-events
returns-in_err-events c =
    let q : c.after.result ≡ c.args.at + 2 = omega (arith, c.after.ensures, c.after-sign.ensures) in
    let p = err_from_is_err_and c.from_residual.result c.from_residual.ensures.1 in
    rw (p.1, p.2) (events_refuse _ _ _ c.requires.here _ (rw q at c.in_err-events.ensures))

pub returns-in-Err : goal.returns-in-Err
returns-in-Err c =
    let q : c.after.result ≡ c.args.at + 2 = omega (arith, c.after.ensures, c.after-sign.ensures) in
    rw c.dropping.ensures (body_refuses _ _ _ c.requires.here _ (rw q at c.in_ok-events.ensures) _ c.in-Err.ensures)
