use Rattle.std.proofs.Common.{arith, refl, sym, ◌∙◌}
use Rattle.std.proofs.lemmas.Result.{err_from_is_err_and}
use Rattle.vlog_read_expr.proofs.SignTests.{yes_by, no_by}
use Rattle.vlog_read.proofs.HeaderSteps.{again_only, again_refuses}
use Rattle.vlog_read.proofs.header.HeaderPortPart.read.Goals as goal

pub returns : goal.returns
returns c = record {
  found = record {
    spelt = (c.in_ok-name.ensures.ok, c.after.ensures);
    only = λ x k q. again_only _ _ (no_by _ c.is_direction.ensures c.if-is_direction.false) x k q ∙ sym c.after.ensures;
    height_is = refl;
    low = omega arith;
    past = omega (arith, c.after.ensures);
    within = omega (arith, c.after.ensures, c.in_ok-name.ensures.within);
  };
  forward = omega (arith, c.after.ensures);
}

pub returns-in_err-name : goal.returns-in_err-name
returns-in_err-name c =
    let p = err_from_is_err_and c.from_residual.result c.from_residual.ensures.1 in
    rw (p.1, p.2) (record { found = again_refuses _ _ _ (no_by _ c.is_direction.ensures c.if-is_direction.false) _ c.in_err-name.ensures.err; forward = tt })

pub port_group-requires : goal.port_group-requires
port_group-requires c = record { here = (yes_by _ c.is_direction.ensures c.if-is_direction.true); low = c.requires }
