use Rattle.std.proofs.Common.{arith}
use Rattle.vlog_read_spelling.proofs.Tokens.{kind_within}
use Rattle.std.proofs.lemmas.Result.{err_from_is_err_and}
use Rattle.vlog_read.proofs.ItemSteps.{wire_declared, declared_refuses}
use Rattle.vlog_tree.specs.Modules.{SpellsWire, wire_height}
use Rattle.vlog_read.proofs.item.wires.Goals as goal

pub after-requires : goal.after-requires
after-requires c = kind_within _ _ _ c.requires.here

pub returns : goal.returns
returns c =
    let a = c.in_ok-rest.ensures in (
      record {
        spelt = (a.spelt.0, c.requires.here, rw c.after.ensures at a.spelt.1, a.spelt.2);
        only = λ x k q. let o = wire_declared _ _ c.args.depth c.requires.here x k q in a.only o.0 k (rw c.after.ensures o.1);
        height_is = omega (arith, a.height_is);
        low = omega (arith, a.low, c.requires.positive);
        past = omega (arith, a.past, c.after.ensures);
        within = omega (arith, a.within, c.after.ensures, kind_within _ _ _ c.requires.here);
      },
      omega (arith, a.past, c.after.ensures),
    )

pub returns-in_err-rest : goal.returns-in_err-rest
returns-in_err-rest c =
    let p = err_from_is_err_and c.from_residual.result c.from_residual.ensures.1 in
    rw (p.1, p.2) (declared_refuses _ _ _ wire_height (SpellsWire c.args.tokens.now) (wire_declared _ _ c.args.depth c.requires.here) _ (rw c.after.ensures at c.in_err-rest.ensures))
