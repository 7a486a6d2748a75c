use Rattle.std.proofs.Common.{arith, refl, sym, ◌∙◌}
use Rattle.vlog_read_spelling.proofs.Tokens.{kind_within}
use Rattle.vlog_read_expr.proofs.SignTests.{yes_by, no_by}
use Rattle.std.proofs.lemmas.Result.{err_from_is_err_and}
use Rattle.vlog_read.proofs.EventSteps.{edges_refuse, edges_open, edges_only}
use Rattle.vlog_read.proofs.events.edges.Goals as goal

pub after-requires : goal.after-requires
after-requires c = kind_within _ _ _ c.requires.opens

pub after-requires-2 : goal.after-requires-2
after-requires-2 c = kind_within _ _ _ (yes_by _ c.is_sign.ensures c.if-not-is_sign.false)

pub returns : goal.returns
returns c =
    let a = c.in_ok-list.ensures.found in
    record {
      spelt = (_, c.requires.opens, rw c.after.ensures at a.spelt, yes_by _ c.is_sign.ensures c.if-not-is_sign.false, c.after-2.ensures);
      only = λ x k q. edges_only _ _ c.requires.opens _ _ (rw c.after.ensures at a) c.requires.edge x k q ∙ sym c.after-2.ensures;
      height_is = refl;
      low = omega arith;
      past = omega (arith, a.past, c.after.ensures, c.after-2.ensures);
      within = omega (arith, c.after-2.ensures, kind_within _ _ _ (yes_by _ c.is_sign.ensures c.if-not-is_sign.false));
    }

pub returns-in_err-list : goal.returns-in_err-list
returns-in_err-list c =
    let p = err_from_is_err_and c.from_residual.result c.from_residual.ensures.1 in
    rw (p.1, p.2) (edges_refuse _ _ c.requires.opens _ c.requires.edge _ (rw c.after.ensures at c.in_err-list.ensures.found))

pub returns-then-not-is_sign : goal.returns-then-not-is_sign
returns-then-not-is_sign c = edges_open _ _ c.requires.opens _ _ (rw c.after.ensures at c.in_ok-list.ensures.found) c.requires.edge (no_by _ c.is_sign.ensures c.if-not-is_sign.true)
