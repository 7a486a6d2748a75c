use Rattle.std.proofs.Common.{◌+◌, ◌≡◌, sym, ◌∙◌, arith}
use Rattle.vlog_read_spelling.proofs.Tokens.{kind_within}
use Rattle.vlog_read_expr.proofs.SignTests.{yes_by, no_by}
use Rattle.std.proofs.lemmas.Result.{err_from_is_err_and}
use Rattle.vlog_read.proofs.ItemSteps.{head_no_module, head_name, parameters_refuse, ports_refuse, head_open, head_only}
use Rattle.vlog_read.proofs.module.read_head.Goals as goal

pub after-place-requires : goal.after-place-requires
after-place-requires c = kind_within _ _ _ (yes_by _ c.is_word.ensures c.if-not-is_word.false)

pub after-requires-2 : goal.after-requires-2
after-requires-2 c = kind_within _ _ _ (yes_by _ c.is_sign.ensures c.if-not-is_sign.false)

pub returns : goal.returns
returns c =
    let a = c.in_ok-parameters.ensures in let b = c.in-Ok.ensures in
    let q : c.after.result ≡ c.args.at + 2 = omega (arith, c.after.ensures, c.after-place.ensures) in (
      record {
        spelt = (_, _, yes_by _ c.is_word.ensures c.if-not-is_word.false, rw c.after-place.ensures at c.in_ok-name.ensures.ok, rw q at a.spelt, b.spelt, yes_by _ c.is_sign.ensures c.if-not-is_sign.false, c.after-2.ensures);
        only = λ x k s. head_only _ _ c.args.depth _ (rw q at a).only (omega (arith, q, a.past)) _ b.only x k s ∙ sym c.after-2.ensures;
        height_is = omega (arith, c.max.ensures, a.height_is, b.height_is);
        low = omega (arith, c.max.ensures, a.low, b.low);
        past = omega (arith, a.past, b.past, q, c.after-2.ensures);
        within = omega (arith, c.after-2.ensures, kind_within _ _ _ (yes_by _ c.is_sign.ensures c.if-not-is_sign.false));
      },
      omega (arith, a.past, b.past, q, c.after-2.ensures),
    )

pub returns-then-not-is_word : goal.returns-then-not-is_word
returns-then-not-is_word c = head_no_module _ _ c.args.depth (no_by _ c.is_word.ensures c.if-not-is_word.true)

pub returns-in_err-name : goal.returns-in_err-name
returns-in_err-name c =
    let p = err_from_is_err_and c.from_residual.result c.from_residual.ensures.1 in
    rw (p.1, p.2) (head_name _ _ _ _ (rw c.after-place.ensures at c.in_err-name.ensures.err))

pub returns-in_err-parameters : goal.returns-in_err-parameters
returns-in_err-parameters c =
    let q : c.after.result ≡ c.args.at + 2 = omega (arith, c.after.ensures, c.after-place.ensures) in
    let p = err_from_is_err_and c.from_residual-in_err-parameters.result c.from_residual-in_err-parameters.ensures.1 in
    rw (p.1, p.2) (parameters_refuse _ _ _ _ (rw q at c.in_err-parameters.ensures))

pub returns-in-Err : goal.returns-in-Err
returns-in-Err c =
    let q : c.after.result ≡ c.args.at + 2 = omega (arith, c.after.ensures, c.after-place.ensures) in
    rw c.dropping.ensures (ports_refuse _ _ _ _ (rw q at c.in_ok-parameters.ensures).only (omega (arith, q, c.in_ok-parameters.ensures.past)) _ c.in-Err.ensures)

pub returns-then-not-is_sign : goal.returns-then-not-is_sign
returns-then-not-is_sign c =
    let q : c.after.result ≡ c.args.at + 2 = omega (arith, c.after.ensures, c.after-place.ensures) in
    rw c.dropping-then-not-is_sign.ensures (head_open _ _ c.args.depth _ (rw q at c.in_ok-parameters.ensures).only (omega (arith, q, c.in_ok-parameters.ensures.past)) _ c.in-Ok.ensures.only (no_by _ c.is_sign.ensures c.if-not-is_sign.true))
