use Rattle.std.proofs.Common.{arith, refl, sym, ◌∙◌, false}
use Rattle.vlog_read_spelling.proofs.Tokens.{kind_within}
use Rattle.vlog_read_expr.proofs.SignTests.{yes_by, no_by}
use Rattle.std.proofs.lemmas.Result.{err_from_is_err_and}
use Rattle.vlog_read.proofs.Steps.{tree_bounds}
use Rattle.vlog_read.proofs.InstanceSteps.{shut, empty_only, inside_refuses, inside_open, inside_only, tree_no_close, tree_refuses, tree_only}
use Rattle.vlog_tree.specs.Spelling.{Spells, height}
use Rattle.vlog_read.proofs.instance.connected.Goals as goal

pub after-open-requires : goal.after-open-requires
after-open-requires c = kind_within _ _ _ (yes_by _ c.is_sign.ensures c.if-not-is_sign.false)

pub after-requires : goal.after-requires
after-requires c = kind_within _ _ _ (yes_by _ c.is_sign-2.ensures c.if-is_sign.true)

pub returns-then-is_sign : goal.returns-then-is_sign
returns-then-is_sign c = record {
  spelt = (_, yes_by _ c.is_sign.ensures c.if-not-is_sign.false, refl, rw c.after-open.ensures at (yes_by _ c.is_sign-2.ensures c.if-is_sign.true), omega (arith, c.after.ensures, c.after-open.ensures));
  only = λ x k q. omega (arith, empty_only _ height (Spells false c.args.tokens.now) (tree_no_close _) _ (rw c.after-open.ensures at (yes_by _ c.is_sign-2.ensures c.if-is_sign.true)) x k q, c.after.ensures, c.after-open.ensures);
  height_is = refl;
  low = omega arith;
  past = omega (arith, c.after.ensures, c.after-open.ensures);
  within = omega (arith, c.after.ensures, kind_within _ _ _ (yes_by _ c.is_sign-2.ensures c.if-is_sign.true));
}

pub after-requires-2 : goal.after-requires-2
after-requires-2 c = kind_within _ _ _ (yes_by _ c.is_sign-3.ensures c.if-not-is_sign-2.false)

pub returns : goal.returns
returns c =
    let a = tree_bounds _ _ _ _ c.in_ok-value.ensures in
    record {
      spelt = (_, yes_by _ c.is_sign.ensures c.if-not-is_sign.false, rw c.after-open.ensures at c.in_ok-value.ensures.reads.spelt, yes_by _ c.is_sign-3.ensures c.if-not-is_sign-2.false, c.after-2.ensures);
      only = λ x k q. inside_only _ height (Spells false c.args.tokens.now) (tree_no_close _) _ c.args.depth (rw c.after-open.ensures at (no_by _ c.is_sign-2.ensures c.if-is_sign.false)) _ (tree_only _ _ _ _ (rw c.after-open.ensures at c.in_ok-value.ensures)) x k q ∙ sym c.after-2.ensures;
      height_is = c.in_ok-value.ensures.height_is;
      low = c.in_ok-value.ensures.low;
      past = omega (arith, a.0, c.after-open.ensures, c.after-2.ensures);
      within = omega (arith, c.after-2.ensures, kind_within _ _ _ (yes_by _ c.is_sign-3.ensures c.if-not-is_sign-2.false));
    }

pub returns-then-not-is_sign : goal.returns-then-not-is_sign
returns-then-not-is_sign c = shut _ height (Spells false c.args.tokens.now) (tree_no_close _) _ (no_by _ c.is_sign.ensures c.if-not-is_sign.true)

pub returns-in_err-value : goal.returns-in_err-value
returns-in_err-value c =
    let p = err_from_is_err_and c.from_residual.result c.from_residual.ensures.1 in
    rw (p.1, p.2) (inside_refuses _ height (Spells false c.args.tokens.now) (tree_no_close _) _ _ (rw c.after-open.ensures at (no_by _ c.is_sign-2.ensures c.if-is_sign.false)) _ (tree_refuses _ _ _ _ (rw c.after-open.ensures at c.in_err-value.ensures)))

pub returns-then-not-is_sign-2 : goal.returns-then-not-is_sign-2
returns-then-not-is_sign-2 c =
    rw c.dropping.ensures (inside_open _ height (Spells false c.args.tokens.now) (tree_no_close _) _ c.args.depth (rw c.after-open.ensures at (no_by _ c.is_sign-2.ensures c.if-is_sign.false)) _ (tree_only _ _ _ _ (rw c.after-open.ensures at c.in_ok-value.ensures)) (no_by _ c.is_sign-3.ensures c.if-not-is_sign-2.true))
