use Rattle.std.proofs.Common.{arith, sym, ◌∙◌}
use Rattle.vlog_read_spelling.proofs.Tokens.{kind_within}
use Rattle.vlog_read_expr.proofs.SignTests.{yes_by, no_by}
use Rattle.std.proofs.lemmas.Result.{err_from_is_err_and}
use Rattle.vlog_read.proofs.PartSteps.{end_refuses, end_open, end_only}
use Rattle.vlog_read.proofs.list.up_to_end.Goals as goal

pub after-requires : goal.after-requires
after-requires g c = kind_within _ _ _ (yes_by _ c.is_sign.ensures c.if-not-is_sign.false)

pub returns : goal.returns
returns g c =
    let a = c.in_ok-list.ensures.found in
    record {
      spelt = (_, a.spelt, yes_by _ c.is_sign.ensures c.if-not-is_sign.false, c.after.ensures);
      only = λ xs k q. end_only c.args.tokens.now g.T.Part.height (g.T.Part.spells c.args.tokens.now) c.args.at c.args.depth _ a xs k q ∙ sym c.after.ensures;
      height_is = a.height_is;
      low = a.low;
      past = omega (arith, a.past, c.after.ensures);
      within = omega (arith, c.after.ensures, kind_within _ _ _ (yes_by _ c.is_sign.ensures c.if-not-is_sign.false));
    }

pub returns-in_err-list : goal.returns-in_err-list
returns-in_err-list g c =
    let p = err_from_is_err_and c.from_residual.result c.from_residual.ensures.1 in
    rw (p.1, p.2) (end_refuses c.args.tokens.now g.T.Part.height (g.T.Part.spells c.args.tokens.now) c.args.at c.args.depth _ c.in_err-list.ensures.found)

pub returns-then-not-is_sign : goal.returns-then-not-is_sign
returns-then-not-is_sign g c = end_open c.args.tokens.now g.T.Part.height (g.T.Part.spells c.args.tokens.now) c.args.at c.args.depth _ c.in_ok-list.ensures.found (no_by _ c.is_sign.ensures c.if-not-is_sign.true)
