use Rattle.std.proofs.Common.{arith, sym, ◌∙◌}
use Rattle.std.proofs.lemmas.Result.{err_from_is_err_and}
use Rattle.vlog_read.proofs.HeaderSteps.{group_kind, group_shape, group_name, group_only}
use Rattle.vlog_read.proofs.header.port_group.Goals as goal

pub after-requires : goal.after-requires
after-requires c = c.in-Ok.ensures.within

pub returns : goal.returns
returns c =
    let k = c.in_ok-kind.ensures in let a = c.in_ok-shape.ensures in
    record {
      found = record {
        spelt = (_, _, k.spelt, a.spelt, (c.in-Ok.ensures.ok, c.after.ensures));
        only = λ x j q. group_only _ _ c.requires.here _ _ k _ a x j q ∙ sym c.after.ensures;
        height_is = a.height_is;
        low = a.low;
        past = omega (arith, k.past, a.past, c.after.ensures);
        within = omega (arith, c.after.ensures, c.in-Ok.ensures.within);
      };
      forward = omega (arith, k.past, a.past, c.after.ensures);
    }

pub returns-in_err-kind : goal.returns-in_err-kind
returns-in_err-kind c =
    let p = err_from_is_err_and c.from_residual.result c.from_residual.ensures.1 in
    rw (p.1, p.2) (record { found = group_kind _ _ c.requires.here _ _ c.in_err-kind.ensures; forward = tt })

pub returns-in_err-shape : goal.returns-in_err-shape
returns-in_err-shape c =
    let p = err_from_is_err_and c.from_residual-in_err-shape.result c.from_residual-in_err-shape.ensures.1 in
    rw (p.1, p.2) (record { found = group_shape _ _ c.requires.here _ _ c.in_ok-kind.ensures _ c.in_err-shape.ensures; forward = tt })

pub returns-in-Err : goal.returns-in-Err
returns-in-Err c =
    rw c.dropping.ensures (record { found = group_name _ _ c.requires.here _ _ c.in_ok-kind.ensures _ c.in_ok-shape.ensures _ c.in-Err.ensures.err; forward = tt })
