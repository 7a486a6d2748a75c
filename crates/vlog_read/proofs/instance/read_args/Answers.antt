use Rattle.std.proofs.lemmas.Result.{err_from_is_err_and}
use Rattle.vlog_read_expr.proofs.SignTests.{yes_by, no_by}
use Rattle.vlog_read.proofs.InstanceSteps.{named_args, expr_args, named_args_refuse, expr_args_refuse}
use Rattle.vlog_read.proofs.instance.read_args.Goals as goal

pub returns-then-is_sign : goal.returns-then-is_sign
returns-then-is_sign c = let a = c.in_ok-list.ensures.found in record {
  spelt = a.spelt;
  only = λ x k q. let o = named_args _ _ (yes_by _ c.is_sign.ensures c.if-is_sign.true) x k q in a.only o.0 k o.1;
  height_is = a.height_is;
  low = a.low;
  past = a.past;
  within = a.within;
}

pub returns-in_err-list : goal.returns-in_err-list
returns-in_err-list c =
    let p = err_from_is_err_and c.from_residual.result c.from_residual.ensures.1 in
    rw (p.1, p.2) (named_args_refuse _ _ _ (yes_by _ c.is_sign.ensures c.if-is_sign.true) _ c.in_err-list.ensures.found)

pub returns : goal.returns
returns c = let a = c.in_ok-list-2.ensures.found in record {
  spelt = a.spelt;
  only = λ x k q. let o = expr_args _ _ (no_by _ c.is_sign.ensures c.if-is_sign.false) x k q in a.only o.0 k o.1;
  height_is = a.height_is;
  low = a.low;
  past = a.past;
  within = a.within;
}

pub returns-in_err-list-2 : goal.returns-in_err-list-2
returns-in_err-list-2 c =
    let p = err_from_is_err_and c.from_residual-in_err-list-2.result c.from_residual-in_err-list-2.ensures.1 in
    rw (p.1, p.2) (expr_args_refuse _ _ _ (no_by _ c.is_sign.ensures c.if-is_sign.false) _ c.in_err-list-2.ensures.found)
