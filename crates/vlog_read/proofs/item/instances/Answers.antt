use Rattle.std.proofs.Common.{arith}
use Rattle.std.proofs.lemmas.Result.{err_from_is_err_and}
use Rattle.vlog_read.proofs.ItemSteps.{instances_name, overrides_refuse, instances_at, instances_refuse}
use Rattle.vlog_read.proofs.item.instances.Goals as goal

pub returns : goal.returns
returns c =
    let o = c.in_ok-overrides.ensures in let a = c.in-Ok.ensures in (
      record {
        spelt = (_, c.in_ok-name.ensures.ok, rw c.after.ensures at o.spelt, a.spelt);
        only = λ x k q. let u = instances_at _ _ _ c.requires.other _ (rw c.after.ensures at o) x k q in a.only u.0 k u.1;
        height_is = omega (arith, c.max.ensures, o.height_is, a.height_is);
        low = omega (arith, c.max.ensures, o.low, a.low, c.requires.positive);
        past = omega (arith, o.past, a.past, c.after.ensures);
        within = omega (arith, o.within, a.within, c.after.ensures, c.in_ok-name.ensures.within);
      },
      omega (arith, o.past, a.past, c.after.ensures),
    )

pub returns-in_err-name : goal.returns-in_err-name
returns-in_err-name c =
    let p = err_from_is_err_and c.from_residual.result c.from_residual.ensures.1 in
    rw (p.1, p.2) (instances_name _ _ _ c.requires.other _ c.in_err-name.ensures.err)

pub returns-in_err-overrides : goal.returns-in_err-overrides
returns-in_err-overrides c =
    let p = err_from_is_err_and c.from_residual-in_err-overrides.result c.from_residual-in_err-overrides.ensures.1 in
    rw (p.1, p.2) (overrides_refuse _ _ _ c.requires.other _ (rw c.after.ensures at c.in_err-overrides.ensures))

pub returns-in-Err : goal.returns-in-Err
returns-in-Err c =
    rw c.dropping.ensures (instances_refuse _ _ _ c.requires.other _ (rw c.after.ensures at c.in_ok-overrides.ensures) _ c.in-Err.ensures)
