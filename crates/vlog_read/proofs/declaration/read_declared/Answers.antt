use Rattle.std.proofs.Common.{arith}
use Rattle.std.proofs.lemmas.Result.{err_from_is_err_and}
use Rattle.vlog_read.proofs.PartSteps.{shape_refuses, declared_items, items_refuse}
use Rattle.vlog_read.proofs.declaration.read_declared.Goals as goal

pub returns : goal.returns
returns g c =
    let a = c.in_ok-shape.ensures in let b = c.in-Ok.ensures in
    record {
      spelt = (_, a.spelt, b.spelt);
      only = λ x k q. b.only x.items k (declared_items c.args.tokens.now g.T.Part.height (g.T.Part.spells c.args.tokens.now) c.args.at c.args.depth _ a x k q);
      height_is = omega (arith, c.max.ensures, a.height_is, b.height_is);
      low = omega (arith, c.max.ensures, a.low, b.low);
      past = omega (arith, a.past, b.past);
      within = omega (arith, a.within, b.within);
    }

pub returns-in_err-shape : goal.returns-in_err-shape
returns-in_err-shape g c =
    let p = err_from_is_err_and c.from_residual.result c.from_residual.ensures.1 in
    rw (p.1, p.2) (shape_refuses c.args.tokens.now g.T.Part.height (g.T.Part.spells c.args.tokens.now) c.args.at c.args.depth _ c.in_err-shape.ensures)

pub returns-in-Err : goal.returns-in-Err
returns-in-Err g c =
    rw c.dropping.ensures (items_refuse c.args.tokens.now g.T.Part.height (g.T.Part.spells c.args.tokens.now) c.args.at c.args.depth _ c.in_ok-shape.ensures _ c.in-Err.ensures)
