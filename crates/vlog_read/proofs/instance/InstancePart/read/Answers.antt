use Rattle.std.proofs.Common.{arith}
use Rattle.std.proofs.lemmas.Result.{err_from_is_err_and}
use Rattle.vlog_read.proofs.InstanceSteps.{instance_name, instance_refuses}
use Rattle.vlog_read.proofs.instance.InstancePart.read.Goals as goal

pub returns : goal.returns
returns c = let a = c.in_ok-args.ensures in record {
  found = record {
    spelt = (c.in_ok-name.ensures.ok, rw c.after.ensures at a.spelt);
    only = λ x k q. a.only x.args k (rw c.after.ensures q.0.1);
    height_is = a.height_is;
    low = a.low;
    past = omega (arith, a.past, c.after.ensures);
    within = omega (arith, a.within, c.after.ensures, c.in_ok-name.ensures.within);
  };
  forward = omega (arith, a.past, c.after.ensures);
}

pub returns-in_err-name : goal.returns-in_err-name
returns-in_err-name c =
    let p = err_from_is_err_and c.from_residual.result c.from_residual.ensures.1 in
    rw (p.1, p.2) (record { found = instance_name _ _ _ _ c.in_err-name.ensures.err; forward = tt })

pub returns-in_err-args : goal.returns-in_err-args
returns-in_err-args c =
    let p = err_from_is_err_and c.from_residual-in_err-args.result c.from_residual-in_err-args.ensures.1 in
    rw (p.1, p.2) (record { found = instance_refuses _ _ _ _ (rw c.after.ensures at c.in_err-args.ensures); forward = tt })
