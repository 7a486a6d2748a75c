use Rattle.std.proofs.Common.{true, false, arith, refl, sym, ◌∙◌}
use Rattle.vlog_read_spelling.proofs.Tokens.{kind_within}
use Rattle.vlog_read_expr.proofs.SignTests.{yes_by, no_by}
use Rattle.vlog_read.proofs.EventSteps.{wire_only, no_wire_only}
use Rattle.vlog_read.proofs.item.past_wire.Goals as goal

pub after-requires : goal.after-requires
after-requires c = kind_within _ _ _ (yes_by _ c.is_word.ensures c.if-is_word.true)

pub returns-then-is_word : goal.returns-then-is_word
returns-then-is_word c = record {
  stands = true;
  flag = (yes_by _ c.is_word.ensures c.if-is_word.true, c.after.ensures);
  only = λ b k f n. wire_only _ _ (yes_by _ c.is_word.ensures c.if-is_word.true) b k f n ∙ sym c.after.ensures;
  past = omega (arith, c.after.ensures);
  within = omega (arith, c.after.ensures, kind_within _ _ _ (yes_by _ c.is_word.ensures c.if-is_word.true));
}

pub returns : goal.returns
returns c = record { stands = false; flag = refl; only = no_wire_only _ _ (no_by _ c.is_word.ensures c.if-is_word.false); past = omega arith; within = omega arith }
