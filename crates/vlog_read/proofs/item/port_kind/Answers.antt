use Rattle.std.proofs.Common.{arith, refl, subst, sym}
use Rattle.std.specs.Prelude.{codes}
use Rattle.vlog_tree.specs.Signs.{IsWord}
use Rattle.vlog_tree.specs.Lists.{Flag}
use Rattle.vlog_read_spelling.proofs.Tokens.{kind_within}
use Rattle.vlog_read_expr.proofs.SignTests.{yes_by, no_by}
use Rattle.vlog_read.proofs.EventSteps.{input_wire, output_wire, output_reg, no_direction}
use Rattle.vlog_read.proofs.item.port_kind.Goals as goal

pub after-next-requires : goal.after-next-requires
after-next-requires c = kind_within _ _ _ (yes_by _ c.is_word.ensures c.if-is_word.true)

pub returns-then-is_word : goal.returns-then-is_word
returns-then-is_word c =
    let a = c.past_wire.ensures in
    record {
      spelt = (a.stands, yes_by _ c.is_word.ensures c.if-is_word.true, rw c.after-next.ensures at a.flag);
      only = λ x k q. let o = input_wire _ _ (yes_by _ c.is_word.ensures c.if-is_word.true) x k q in a.only o.0 k (rw c.after-next.ensures o.1) q.1;
      height_is = refl;
      low = omega arith;
      past = omega (arith, a.past, c.after-next.ensures);
      within = omega (arith, a.within, c.after-next.ensures, kind_within _ _ _ (yes_by _ c.is_word.ensures c.if-is_word.true));
    }

pub after-next-requires-2 : goal.after-next-requires-2
after-next-requires-2 c = kind_within _ _ _ (yes_by _ c.is_word-2.ensures c.if-not-is_word.false)

pub after-requires : goal.after-requires
after-requires c = kind_within _ _ _ (yes_by _ c.is_word-3.ensures c.if-is_word-2.true)

pub returns-then-is_word-2 : goal.returns-then-is_word-2
returns-then-is_word-2 c = record {
  spelt = (yes_by _ c.is_word-2.ensures c.if-not-is_word.false, rw c.after-next-2.ensures at (yes_by _ c.is_word-3.ensures c.if-is_word-2.true), omega (arith, c.after.ensures, c.after-next-2.ensures));
  only = λ x k q. omega (arith, output_reg _ _ (yes_by _ c.is_word-2.ensures c.if-not-is_word.false) (rw c.after-next-2.ensures at (yes_by _ c.is_word-3.ensures c.if-is_word-2.true)) x k q, c.after.ensures, c.after-next-2.ensures);
  height_is = refl;
  low = omega arith;
  past = omega (arith, c.after.ensures, c.after-next-2.ensures);
  within = omega (arith, c.after.ensures, kind_within _ _ _ (yes_by _ c.is_word-3.ensures c.if-is_word-2.true));
}

pub returns : goal.returns
returns c =
    let a = c.past_wire-2.ensures in
    record {
      spelt = (a.stands, yes_by _ c.is_word-2.ensures c.if-not-is_word.false, rw c.after-next-2.ensures at a.flag);
      only = λ x k q. let o = output_wire _ _ (yes_by _ c.is_word-2.ensures c.if-not-is_word.false) (subst (λ z. IsWord c.args.tokens.now z (codes "reg") → ⊥) c.after-next-2.ensures (no_by _ c.is_word-3.ensures c.if-is_word-2.false)) x k q in a.only o.0 k (subst (λ z. Flag c.args.tokens.now (codes "wire") z o.0 k) (sym c.after-next-2.ensures) o.1) q.1;
      height_is = refl;
      low = omega arith;
      past = omega (arith, a.past, c.after-next-2.ensures);
      within = omega (arith, a.within, c.after-next-2.ensures, kind_within _ _ _ (yes_by _ c.is_word-2.ensures c.if-not-is_word.false));
    }

pub returns-then-not-is_word : goal.returns-then-not-is_word
returns-then-not-is_word c = no_direction _ _ (no_by _ c.is_word.ensures c.if-is_word.false) (no_by _ c.is_word-2.ensures c.if-not-is_word.true)
