use Rattle.std.proofs.Common.{arith}
use Rattle.vlog_read_spelling.proofs.Tokens.{kind_within}
use Rattle.vlog_read_expr.proofs.SignTests.{yes_by, no_by}
use Rattle.std.proofs.lemmas.Result.{err_from_is_err_and}
use Rattle.vlog_read.proofs.HeaderSteps.{again_parameter, again_parameter_refuses, parameter_shape, parameter_at, parameter_value}
use Rattle.vlog_read.proofs.header.HeaderParameterPart.read.Goals as goal

pub after-requires : goal.after-requires
after-requires c = kind_within _ _ _ (yes_by _ c.is_word.ensures c.if-not-is_word.false)

pub returns : goal.returns
returns c =
    let a = c.in_ok-shape.ensures in let b = c.in-Ok.ensures.found in
    record {
      found = record {
        spelt = (_, yes_by _ c.is_word.ensures c.if-not-is_word.false, rw c.after.ensures at a.spelt, b.spelt);
        only = λ x k q. let o = parameter_at _ _ (yes_by _ c.is_word.ensures c.if-not-is_word.false) _ _ (rw c.after.ensures at a) x k q in b.only o.0 k o.1;
        height_is = omega (arith, c.max.ensures, a.height_is, b.height_is);
        low = omega (arith, c.max.ensures, a.low, b.low);
        past = omega (arith, a.past, b.past, c.after.ensures);
        within = omega (arith, a.within, b.within, c.after.ensures, kind_within _ _ _ (yes_by _ c.is_word.ensures c.if-not-is_word.false));
      };
      forward = omega (arith, a.past, b.past, c.after.ensures);
    }

pub returns-then-not-is_word : goal.returns-then-not-is_word
returns-then-not-is_word c = let a = c.in_ok-value.ensures in record {
  found = record {
    spelt = a.found.spelt;
    only = λ x k q. let o = again_parameter _ _ (no_by _ c.is_word.ensures c.if-not-is_word.true) x k q in a.found.only o.0 k o.1;
    height_is = a.found.height_is;
    low = a.found.low;
    past = a.found.past;
    within = a.found.within;
  };
  forward = a.forward;
}

pub returns-in_err-value : goal.returns-in_err-value
returns-in_err-value c =
    let p = err_from_is_err_and c.from_residual.result c.from_residual.ensures.1 in
    rw (p.1, p.2) (record { found = again_parameter_refuses _ _ _ (no_by _ c.is_word.ensures c.if-not-is_word.true) _ c.in_err-value.ensures.found; forward = tt })

pub returns-in_err-shape : goal.returns-in_err-shape
returns-in_err-shape c =
    let p = err_from_is_err_and c.from_residual-in_err-shape.result c.from_residual-in_err-shape.ensures.1 in
    rw (p.1, p.2) (record { found = parameter_shape _ _ (yes_by _ c.is_word.ensures c.if-not-is_word.false) _ _ (rw c.after.ensures at c.in_err-shape.ensures); forward = tt })

pub returns-in-Err : goal.returns-in-Err
returns-in-Err c =
    rw c.dropping.ensures (record { found = parameter_value _ _ (yes_by _ c.is_word.ensures c.if-not-is_word.false) _ _ (rw c.after.ensures at c.in_ok-shape.ensures) _ c.in-Err.ensures.found; forward = tt })
