use Rattle.std.proofs.Common.{arith, sym, ◌∙◌}
use Rattle.vlog_read_spelling.proofs.Tokens.{kind_within}
use Rattle.std.proofs.lemmas.Result.{err_from_is_err_and}
use Rattle.vlog_read.proofs.ItemSteps.{head_refuses, module_refuses, module_only}
use Rattle.vlog_read.proofs.module.read_module.Goals as goal

pub after-requires : goal.after-requires
after-requires c = kind_within _ _ _ c.in_ok-items.ensures.spelt.1

pub returns : goal.returns
returns c =
    let a = c.in_ok-head.ensures.0 in let b = c.in_ok-items.ensures in let s = a.spelt in (
      record {
        spelt = (s.0, s.1, _, s.2, s.3, s.4, s.5, s.6, rw s.7 at b.spelt.0, b.spelt.1, c.after.ensures);
        only = λ x k q. module_only _ _ _ a _ b x k q ∙ sym c.after.ensures;
        height_is = omega (arith, c.max.ensures, a.height_is, b.height_is);
        low = omega (arith, c.max.ensures, a.low, b.low);
        past = omega (arith, a.past, b.past, c.after.ensures);
        within = omega (arith, c.after.ensures, kind_within _ _ _ c.in_ok-items.ensures.spelt.1);
      },
      omega (arith, a.past, b.past, c.after.ensures),
    )

pub returns-in_err-head : goal.returns-in_err-head
returns-in_err-head c =
    let p = err_from_is_err_and c.from_residual.result c.from_residual.ensures.1 in
    rw (p.1, p.2) (head_refuses _ _ _ c.in_err-head.ensures)

pub returns-in_err-items : goal.returns-in_err-items
returns-in_err-items c =
    let p = err_from_is_err_and c.from_residual-in_err-items.result c.from_residual-in_err-items.ensures.1 in
    rw (p.1, p.2) (module_refuses _ _ _ c.in_ok-head.ensures.0 c.in_ok-head.ensures.1 _ c.in_err-items.ensures)
