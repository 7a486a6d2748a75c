use Rattle.std.proofs.Common.{inl, inr, arith}
use Rattle.vlog_read_expr.proofs.SignTests.{yes_by, no_by}
use Rattle.vlog_read.proofs.ItemSteps.{item_past_end, item_deep}
use Rattle.vlog_read.proofs.item.read_item.Goals as goal

pub returns-then-tokens-at : goal.returns-then-tokens-at
returns-then-tokens-at c = item_past_end _ _ (omega (arith, c.if-tokens-at.true))

pub returns-then-depth-eq0 : goal.returns-then-depth-eq0
returns-then-depth-eq0 c = item_deep _ _ _ (omega (arith, c.if-tokens-at.false)) c.if-depth-eq0.true

pub ports-requires : goal.ports-requires
ports-requires c = record { here = yes_by _ c.is_direction.ensures c.if-is_direction.true; positive = omega (arith, c.if-depth-eq0.false); low = c.requires.low }

pub instances-requires : goal.instances-requires
instances-requires c = record {
  other = record {
    no_input = λ w. no_by _ c.is_direction.ensures c.if-is_direction.false (inl w);
    no_output = λ w. no_by _ c.is_direction.ensures c.if-is_direction.false (inr w);
    no_wire = no_by _ c.is_word.ensures c.if-is_word.false;
    no_reg = no_by _ c.is_word-else-is_word.ensures c.if-is_word-2.false;
    no_parameter = no_by _ c.is_word-else-is_word-2.ensures c.if-is_word-3.false;
    no_localparam = no_by _ c.is_word-else-is_word-3.ensures c.if-is_word-4.false;
    no_assign = no_by _ c.is_word-else-is_word-4.ensures c.if-is_word-5.false;
    no_always = no_by _ c.is_word-else-is_word-5.ensures c.if-is_word-6.false;
  };
  positive = omega (arith, c.if-depth-eq0.false);
  low = c.requires.low;
}
