use Rattle.std.proofs.Common.{arith}
use Rattle.std.proofs.lemmas.Result.{err_from_is_err_and}
use Rattle.vlog_read.proofs.Steps.{kind_forward, no_heights}
use Rattle.vlog_read.proofs.ItemSteps.{ports_kind, ports_at, ports_rest}
use Rattle.vlog_read.proofs.item.ports.Goals as goal

pub returns : goal.returns
returns c =
    let k = c.in_ok-kind.ensures in let a = c.in_ok-rest.ensures in (
      record {
        spelt = (_, a.spelt.0, k.spelt, a.spelt.1, a.spelt.2);
        only = λ x k q. let o = ports_at _ _ c.args.depth c.requires.here _ c.in_ok-kind.ensures x k q in a.only o.0 k o.1;
        height_is = omega (arith, a.height_is, no_heights c.in_ok-rest.rest.tree.items);
        low = omega (arith, a.low, c.requires.positive);
        past = omega (arith, k.past, a.past);
        within = omega (arith, k.within, a.within);
      },
      omega (arith, a.past, kind_forward _ _ _ _ k.spelt),
    )

pub returns-in_err-kind : goal.returns-in_err-kind
returns-in_err-kind c =
    let p = err_from_is_err_and c.from_residual.result c.from_residual.ensures.1 in
    rw (p.1, p.2) (ports_kind _ _ _ c.requires.here _ c.in_err-kind.ensures)

pub returns-in_err-rest : goal.returns-in_err-rest
returns-in_err-rest c =
    let p = err_from_is_err_and c.from_residual-in_err-rest.result c.from_residual-in_err-rest.ensures.1 in
    rw (p.1, p.2) (ports_rest _ _ _ c.requires.here _ c.in_ok-kind.ensures _ c.in_err-rest.ensures)
