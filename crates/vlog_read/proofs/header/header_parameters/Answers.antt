use Rattle.std.proofs.Common.{◌+◌, ◌≡◌, arith, refl, sym, ◌∙◌}
use Rattle.vlog_read_spelling.proofs.Tokens.{kind_within}
use Rattle.vlog_read_expr.proofs.SignTests.{yes_by, no_by}
use Rattle.std.proofs.lemmas.Result.{err_from_is_err_and}
use Rattle.vlog_read.proofs.HeaderSteps.{begins_parameters}
use Rattle.vlog_read.proofs.HeaderSteps.{no_parameters, hash_shut, hash_no_parameter, hash_refuses, hash_open, hash_only}
use Rattle.vlog_read.proofs.header.header_parameters.Goals as goal

pub returns-then-not-is_sign : goal.returns-then-not-is_sign
returns-then-not-is_sign c = record { spelt = refl; only = no_parameters _ _ (no_by _ c.is_sign.ensures c.if-not-is_sign.true); height_is = refl; low = omega arith; past = omega arith; within = omega arith }

pub after-open-requires : goal.after-open-requires
after-open-requires c = kind_within _ _ _ (yes_by _ c.is_sign.ensures c.if-not-is_sign.false)

pub after-list_at-requires : goal.after-list_at-requires
after-list_at-requires c = kind_within _ _ _ (yes_by _ c.is_sign-2.ensures c.if-not-is_sign-2.false)

pub after-requires : goal.after-requires
after-requires c = kind_within _ _ _ (yes_by _ c.is_sign-3.ensures c.if-not-is_sign-3.false)

pub returns : goal.returns
returns c =
    let a = c.in_ok-list.ensures.found in
    let w = yes_by _ c.is_word.ensures c.if-not-is_word.false in
    let q2 : c.after-list_at.result ≡ c.args.at + 2 = omega (arith, c.after-open.ensures, c.after-list_at.ensures) in
    let q : c.after-list_at.result ≡ c.args.at + 1 + 1 = omega (arith, c.after-open.ensures, c.after-list_at.ensures) in
    record {
      spelt = (
        yes_by _ c.is_sign.ensures c.if-not-is_sign.false,
        (
          _,
          rw c.after-open.ensures at (yes_by _ c.is_sign-2.ensures c.if-not-is_sign-2.false),
          (begins_parameters _ _ _ _ a.spelt w, rw q at a.spelt),
          yes_by _ c.is_sign-3.ensures c.if-not-is_sign-3.false,
          c.after.ensures,
        ),
      );
      only = λ x k s. hash_only _ _ (yes_by _ c.is_sign.ensures c.if-not-is_sign.false) _ _ (rw q2 at a) x k s ∙ sym c.after.ensures;
      height_is = a.height_is;
      low = a.low;
      past = omega (arith, a.past, q, c.after.ensures);
      within = omega (arith, c.after.ensures, kind_within _ _ _ (yes_by _ c.is_sign-3.ensures c.if-not-is_sign-3.false));
    }

pub returns-then-not-is_sign-2 : goal.returns-then-not-is_sign-2
returns-then-not-is_sign-2 c = hash_shut _ _ (yes_by _ c.is_sign.ensures c.if-not-is_sign.false) (rw c.after-open.ensures at (no_by _ c.is_sign-2.ensures c.if-not-is_sign-2.true))

pub returns-then-not-is_word : goal.returns-then-not-is_word
returns-then-not-is_word c =
    let q : c.after-list_at.result ≡ c.args.at + 2 = omega (arith, c.after-open.ensures, c.after-list_at.ensures) in
    hash_no_parameter _ _ (yes_by _ c.is_sign.ensures c.if-not-is_sign.false) (rw q at (no_by _ c.is_word.ensures c.if-not-is_word.true))

pub returns-in_err-list : goal.returns-in_err-list
returns-in_err-list c =
    let q : c.after-list_at.result ≡ c.args.at + 2 = omega (arith, c.after-open.ensures, c.after-list_at.ensures) in
    let p = err_from_is_err_and c.from_residual.result c.from_residual.ensures.1 in
    rw (p.1, p.2) (hash_refuses _ _ (yes_by _ c.is_sign.ensures c.if-not-is_sign.false) _ _ (rw q at c.in_err-list.ensures.found))

pub returns-then-not-is_sign-3 : goal.returns-then-not-is_sign-3
returns-then-not-is_sign-3 c =
    let q : c.after-list_at.result ≡ c.args.at + 2 = omega (arith, c.after-open.ensures, c.after-list_at.ensures) in
    hash_open _ _ (yes_by _ c.is_sign.ensures c.if-not-is_sign.false) _ _ (rw q at c.in_ok-list.ensures.found) (no_by _ c.is_sign-3.ensures c.if-not-is_sign-3.true)
