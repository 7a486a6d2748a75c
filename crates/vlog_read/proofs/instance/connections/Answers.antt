use Rattle.std.proofs.Common.{arith, refl, sym, ◌∙◌, inl}
use Rattle.vlog_read_spelling.proofs.Tokens.{kind_within}
use Rattle.vlog_read_expr.proofs.SignTests.{yes_by, no_by}
use Rattle.std.proofs.lemmas.Result.{err_from_is_err_and}
use Rattle.vlog_read.proofs.InstanceSteps.{shut, empty_only, inside_refuses, inside_open, inside_only, args_no_close, close_args}
use Rattle.vlog_tree.specs.Modules.{SpellsArgs, args_height}
use Rattle.vlog_read.proofs.instance.connections.Goals as goal

pub after-open-requires : goal.after-open-requires
after-open-requires c = kind_within _ _ _ (yes_by _ c.is_sign.ensures c.if-not-is_sign.false)

pub after-requires : goal.after-requires
after-requires c = kind_within _ _ _ (yes_by _ c.is_sign-2.ensures c.if-is_sign.true)

pub returns-then-is_sign : goal.returns-then-is_sign
returns-then-is_sign c = record {
  spelt = (_, yes_by _ c.is_sign.ensures c.if-not-is_sign.false, refl, rw c.after-open.ensures at (yes_by _ c.is_sign-2.ensures c.if-is_sign.true), omega (arith, c.after.ensures, c.after-open.ensures));
  only = λ x k q. omega (arith, empty_only _ args_height (SpellsArgs c.args.tokens.now) (args_no_close _) _ (rw c.after-open.ensures at (yes_by _ c.is_sign-2.ensures c.if-is_sign.true)) x k q, c.after.ensures, c.after-open.ensures);
  height_is = refl;
  low = omega arith;
  past = omega (arith, c.after.ensures, c.after-open.ensures);
  within = omega (arith, c.after.ensures, kind_within _ _ _ (yes_by _ c.is_sign-2.ensures c.if-is_sign.true));
}

pub after-requires-2 : goal.after-requires-2
after-requires-2 c = kind_within _ _ _ (yes_by _ c.is_sign-3.ensures c.if-not-is_sign-2.false)

pub returns : goal.returns
returns c =
    let a = c.in_ok-args.ensures in
    record {
      spelt = (_, yes_by _ c.is_sign.ensures c.if-not-is_sign.false, rw c.after-open.ensures at a.spelt, yes_by _ c.is_sign-3.ensures c.if-not-is_sign-2.false, c.after-2.ensures);
      only = λ x k q. inside_only _ args_height (SpellsArgs c.args.tokens.now) (args_no_close _) _ c.args.depth (rw c.after-open.ensures at (no_by _ c.is_sign-2.ensures c.if-is_sign.false)) c.in_ok-args.args.end (λ y m s. (rw c.after-open.ensures at c.in_ok-args.ensures).only y m (s.0, inl s.1)) x k q ∙ sym c.after-2.ensures;
      height_is = a.height_is;
      low = a.low;
      past = omega (arith, a.past, c.after-open.ensures, c.after-2.ensures);
      within = omega (arith, c.after-2.ensures, kind_within _ _ _ (yes_by _ c.is_sign-3.ensures c.if-not-is_sign-2.false));
    }

pub returns-then-not-is_sign : goal.returns-then-not-is_sign
returns-then-not-is_sign c = shut _ args_height (SpellsArgs c.args.tokens.now) (args_no_close _) _ (no_by _ c.is_sign.ensures c.if-not-is_sign.true)

pub returns-in_err-args : goal.returns-in_err-args
returns-in_err-args c =
    let p = err_from_is_err_and c.from_residual.result c.from_residual.ensures.1 in
    rw (p.1, p.2) (inside_refuses _ args_height (SpellsArgs c.args.tokens.now) (args_no_close _) _ _ (rw c.after-open.ensures at (no_by _ c.is_sign-2.ensures c.if-is_sign.false)) _ (close_args _ _ _ _ (rw c.after-open.ensures at c.in_err-args.ensures)))

pub returns-then-not-is_sign-2 : goal.returns-then-not-is_sign-2
returns-then-not-is_sign-2 c = inside_open _ args_height (SpellsArgs c.args.tokens.now) (args_no_close _) _ c.args.depth (rw c.after-open.ensures at (no_by _ c.is_sign-2.ensures c.if-is_sign.false)) c.in_ok-args.args.end (λ y m s. (rw c.after-open.ensures at c.in_ok-args.ensures).only y m (s.0, inl s.1)) (no_by _ c.is_sign-3.ensures c.if-not-is_sign-2.true)
