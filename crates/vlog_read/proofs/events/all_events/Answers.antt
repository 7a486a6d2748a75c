use Rattle.std.proofs.Common.{◌+◌, ◌≡◌, inr, arith, refl}
use Rattle.vlog_read_spelling.proofs.Tokens.{kind_within}
use Rattle.vlog_read_expr.proofs.SignTests.{yes_by, no_by}
use Rattle.vlog_read.proofs.EventSteps.{all_close}
use Rattle.vlog_read.proofs.events.all_events.Goals as goal

pub after-requires : goal.after-requires
after-requires c = kind_within _ _ _ c.requires.opens

pub after-close-requires : goal.after-close-requires
after-close-requires c = rw c.after.ensures (kind_within _ _ _ c.requires.star)

pub after-requires-2 : goal.after-requires-2
after-requires-2 c = kind_within _ _ _ (yes_by _ c.is_sign.ensures c.if-not-is_sign.false)

pub returns : goal.returns
returns c =
    let q : c.after-close.result ≡ c.args.at + 2 = omega (arith, c.after.ensures, c.after-close.ensures) in
    record {
      spelt = inr (c.requires.opens, c.requires.star, rw q at (yes_by _ c.is_sign.ensures c.if-not-is_sign.false), omega (arith, q, c.after-2.ensures));
      only = λ x k s. omega (arith, (all_close _ _ c.requires.opens c.requires.star x k s).1, q, c.after-2.ensures);
      height_is = refl;
      low = omega arith;
      past = omega (arith, q, c.after-2.ensures);
      within = omega (arith, c.after-2.ensures, kind_within _ _ _ (yes_by _ c.is_sign.ensures c.if-not-is_sign.false));
    }

pub returns-then-not-is_sign : goal.returns-then-not-is_sign
returns-then-not-is_sign c =
    let q : c.after-close.result ≡ c.args.at + 2 = omega (arith, c.after.ensures, c.after-close.ensures) in
    λ x k s. no_by _ c.is_sign.ensures c.if-not-is_sign.true (rw q (all_close _ _ c.requires.opens c.requires.star x k s).0)
