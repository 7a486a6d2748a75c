use Rattle.std.proofs.Common.{arith}
use Rattle.std.proofs.lemmas.Result.{err_from_is_err_and}
use Rattle.vlog_read.proofs.Steps.{lval_bounds}
use Rattle.vlog_read.proofs.PartSteps.{left_refuses, right_refuses, assign_value}
use Rattle.vlog_read.proofs.parts.AssignPart.read.Goals as goal

pub returns : goal.returns
returns c =
    let l = lval_bounds _ _ _ _ c.in_ok-left.ensures in let a = c.in-Ok.ensures in record {
      found = record {
        spelt = (_, c.in_ok-left.ensures.reads.spelt, a.spelt);
        only = λ x k q. a.only x.right k (assign_value _ _ _ _ c.in_ok-left.ensures x k q);
        height_is = omega (arith, c.max.ensures, c.in_ok-left.ensures.height_is, a.height_is);
        low = omega (arith, c.max.ensures, c.in_ok-left.ensures.low, a.low);
        past = omega (arith, l.0, a.past);
        within = omega (arith, l.1, a.within);
      };
      forward = omega (arith, l.0, a.past);
    }

pub returns-in_err-left : goal.returns-in_err-left
returns-in_err-left c =
    let p = err_from_is_err_and c.from_residual.result c.from_residual.ensures.1 in
    rw (p.1, p.2) (record { found = left_refuses _ _ _ _ c.in_err-left.ensures; forward = tt })

pub returns-in-Err : goal.returns-in-Err
returns-in-Err c =
    rw c.dropping.ensures (record { found = right_refuses _ _ _ _ c.in_ok-left.ensures _ c.in-Err.ensures; forward = tt })
