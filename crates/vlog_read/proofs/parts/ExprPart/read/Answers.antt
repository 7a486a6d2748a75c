use Rattle.std.proofs.Common.{arith}
use Rattle.std.proofs.lemmas.Result.{err_from_is_err_and}
use Rattle.vlog_read.proofs.Steps.{tree_bounds}
use Rattle.vlog_read.proofs.PartSteps.{expr_only, expr_refuses}
use Rattle.vlog_read.proofs.parts.ExprPart.read.Goals as goal

pub returns : goal.returns
returns c = let a = tree_bounds _ _ _ _ c.in_ok-read.ensures in record {
  found = record {
    spelt = c.in_ok-read.ensures.reads.spelt;
    only = expr_only _ _ _ _ c.in_ok-read.ensures;
    height_is = c.in_ok-read.ensures.height_is;
    low = c.in_ok-read.ensures.low;
    past = omega (arith, a.0);
    within = omega (arith, a.1);
  };
  forward = a.0;
}

pub returns-in_err-read : goal.returns-in_err-read
returns-in_err-read c =
    let p = err_from_is_err_and c.from_residual.result c.from_residual.ensures.1 in
    rw (p.1, p.2) (record { found = expr_refuses _ _ _ _ c.in_err-read.ensures; forward = tt })
