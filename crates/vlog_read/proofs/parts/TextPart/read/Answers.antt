use Rattle.std.proofs.Common.{arith, refl, sym, ◌∙◌}
use Rattle.std.proofs.lemmas.Result.{err_from_is_err_and}
use Rattle.vlog_read.proofs.PartSteps.{text_refuses}
use Rattle.vlog_read.proofs.parts.TextPart.read.Goals as goal

pub returns : goal.returns
returns c = record {
  found = record {
    spelt = (c.in_ok-name.ensures.ok, c.after.ensures);
    only = λ x k q. q.0.1 ∙ sym c.after.ensures;
    height_is = refl;
    low = omega arith;
    past = omega (arith, c.after.ensures);
    within = omega (arith, c.after.ensures, c.in_ok-name.ensures.within);
  };
  forward = omega (arith, c.after.ensures);
}

pub returns-in_err-name : goal.returns-in_err-name
returns-in_err-name c =
    let p = err_from_is_err_and c.from_residual.result c.from_residual.ensures.1 in
    rw (p.1, p.2) (record { found = text_refuses _ _ _ _ c.in_err-name.ensures.err; forward = tt })
