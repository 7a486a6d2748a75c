use Rattle.std.proofs.Common.{◌+◌, ◌≡◌, arith, refl, sym, ◌∙◌}
use Rattle.vlog_read_spelling.proofs.Tokens.{kind_within}
use Rattle.vlog_read_expr.proofs.SignTests.{yes_by, no_by}
use Rattle.std.proofs.lemmas.Result.{err_from_is_err_and}
use Rattle.vlog_read.proofs.InstanceSteps.{no_hash, hash_shut, hash_refuses, hash_open, hash_only}
use Rattle.vlog_tree.specs.Modules.{SpellsArgs, args_height}
use Rattle.vlog_read.proofs.instance.overrides.Goals as goal

pub returns-then-not-is_sign : goal.returns-then-not-is_sign
returns-then-not-is_sign c = record { spelt = refl; only = no_hash _ args_height (SpellsArgs c.args.tokens.now) _ (no_by _ c.is_sign.ensures c.if-not-is_sign.true); height_is = refl; low = omega arith; past = omega arith; within = omega arith }

pub after-open-requires : goal.after-open-requires
after-open-requires c = kind_within _ _ _ (yes_by _ c.is_sign.ensures c.if-not-is_sign.false)

pub after-requires : goal.after-requires
after-requires c = kind_within _ _ _ (yes_by _ c.is_sign-2.ensures c.if-not-is_sign-2.false)

pub after-requires-2 : goal.after-requires-2
after-requires-2 c = kind_within _ _ _ (yes_by _ c.is_sign-3.ensures c.if-not-is_sign-3.false)

pub returns : goal.returns
returns c =
    let a = c.in_ok-args.ensures in
    let q : c.after.result ≡ c.args.at + 1 + 1 = omega (arith, c.after.ensures, c.after-open.ensures) in
    record {
      spelt = (yes_by _ c.is_sign.ensures c.if-not-is_sign.false, (_, rw c.after-open.ensures at (yes_by _ c.is_sign-2.ensures c.if-not-is_sign-2.false), rw q at a.spelt, yes_by _ c.is_sign-3.ensures c.if-not-is_sign-3.false, c.after-2.ensures));
      only = λ x k s. hash_only _ args_height (SpellsArgs c.args.tokens.now) _ (yes_by _ c.is_sign.ensures c.if-not-is_sign.false) _ _ (rw q at a) x k s ∙ sym c.after-2.ensures;
      height_is = a.height_is;
      low = a.low;
      past = omega (arith, a.past, q, c.after-2.ensures);
      within = omega (arith, c.after-2.ensures, kind_within _ _ _ (yes_by _ c.is_sign-3.ensures c.if-not-is_sign-3.false));
    }

pub returns-then-not-is_sign-2 : goal.returns-then-not-is_sign-2
returns-then-not-is_sign-2 c = hash_shut _ args_height (SpellsArgs c.args.tokens.now) _ (yes_by _ c.is_sign.ensures c.if-not-is_sign.false) (rw c.after-open.ensures at (no_by _ c.is_sign-2.ensures c.if-not-is_sign-2.true))

pub returns-in_err-args : goal.returns-in_err-args
returns-in_err-args c =
    let q : c.after.result ≡ c.args.at + 1 + 1 = omega (arith, c.after.ensures, c.after-open.ensures) in
    let p = err_from_is_err_and c.from_residual.result c.from_residual.ensures.1 in
    rw (p.1, p.2) (hash_refuses _ args_height (SpellsArgs c.args.tokens.now) _ (yes_by _ c.is_sign.ensures c.if-not-is_sign.false) _ _ (rw q at c.in_err-args.ensures))

pub returns-then-not-is_sign-3 : goal.returns-then-not-is_sign-3
returns-then-not-is_sign-3 c =
    let q : c.after.result ≡ c.args.at + 1 + 1 = omega (arith, c.after.ensures, c.after-open.ensures) in
    hash_open _ args_height (SpellsArgs c.args.tokens.now) _ (yes_by _ c.is_sign.ensures c.if-not-is_sign.false) _ _ (rw q at c.in_ok-args.ensures) (no_by _ c.is_sign-3.ensures c.if-not-is_sign-3.true)
