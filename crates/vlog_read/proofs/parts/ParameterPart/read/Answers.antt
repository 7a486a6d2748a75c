use Rattle.std.proofs.Common.{arith}
use Rattle.std.proofs.lemmas.Result.{err_from_is_err_and}
use Rattle.vlog_read.proofs.PartSteps.{parameter_name, parameter_refuses}
use Rattle.vlog_read.proofs.parts.ParameterPart.read.Goals as goal

pub returns : goal.returns
returns c = let a = c.in_ok-value.ensures in record {
  found = record {
    spelt = (c.in_ok-name.ensures.ok, rw c.after.ensures at a.spelt);
    only = λ x k q. a.only x.value k (rw c.after.ensures (q.0.1, q.1));
    height_is = a.height_is;
    low = a.low;
    past = omega (arith, a.past, c.after.ensures);
    within = omega (arith, a.within, c.after.ensures, c.in_ok-name.ensures.within);
  };
  forward = omega (arith, a.past, c.after.ensures);
}

pub returns-in_err-name : goal.returns-in_err-name
returns-in_err-name c =
    let p = err_from_is_err_and c.from_residual.result c.from_residual.ensures.1 in
    rw (p.1, p.2) (record { found = parameter_name _ _ _ _ c.in_err-name.ensures.err; forward = tt })

pub returns-in_err-value : goal.returns-in_err-value
returns-in_err-value c =
    let p = err_from_is_err_and c.from_residual-in_err-value.result c.from_residual-in_err-value.ensures.1 in
    rw (p.1, p.2) (record { found = parameter_refuses _ _ _ _ (rw c.after.ensures at c.in_err-value.ensures); forward = tt })
