use Rattle.std.proofs.Common.{◌+◌, ◌≡◌, arith}
use Rattle.vlog_read_spelling.proofs.Tokens.{kind_within}
use Rattle.vlog_read_expr.proofs.SignTests.{yes_by, no_by}
use Rattle.std.proofs.lemmas.Result.{err_from_is_err_and}
use Rattle.vlog_read.proofs.InstanceSteps.{connection_no_dot, connection_name, connection_refuses}
use Rattle.vlog_read.proofs.instance.ConnectionPart.read.Goals as goal

pub after-place-requires : goal.after-place-requires
after-place-requires c = kind_within _ _ _ (yes_by _ c.is_sign.ensures c.if-not-is_sign.false)

pub returns : goal.returns
returns c =
    let a = c.in_ok-value.ensures in
    let q : c.after.result ≡ c.args.at + 2 = omega (arith, c.after.ensures, c.after-place.ensures) in
    record {
      found = record {
        spelt = (yes_by _ c.is_sign.ensures c.if-not-is_sign.false, rw c.after-place.ensures at c.in_ok-port.ensures.ok, rw q at a.spelt);
        only = λ x k s. a.only x.value k (rw q s.0.2);
        height_is = a.height_is;
        low = a.low;
        past = omega (arith, a.past, q);
        within = omega (arith, a.within, c.after.ensures, c.in_ok-port.ensures.within);
      };
      forward = omega (arith, a.past, q);
    }

pub returns-then-not-is_sign : goal.returns-then-not-is_sign
returns-then-not-is_sign c = record { found = connection_no_dot _ _ c.args.depth (no_by _ c.is_sign.ensures c.if-not-is_sign.true); forward = tt }

pub returns-in_err-port : goal.returns-in_err-port
returns-in_err-port c =
    let p = err_from_is_err_and c.from_residual.result c.from_residual.ensures.1 in
    rw (p.1, p.2) (record { found = connection_name _ _ _ _ (rw c.after-place.ensures at c.in_err-port.ensures.err); forward = tt })

pub returns-in_err-value : goal.returns-in_err-value
returns-in_err-value c =
    let q : c.after.result ≡ c.args.at + 2 = omega (arith, c.after.ensures, c.after-place.ensures) in
    let p = err_from_is_err_and c.from_residual-in_err-value.result c.from_residual-in_err-value.ensures.1 in
    rw (p.1, p.2) (record { found = connection_refuses _ _ _ _ (rw q at c.in_err-value.ensures); forward = tt })
