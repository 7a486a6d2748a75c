use Rattle.std.proofs.Common.{◌≡◌, ◌+◌, ◌*◌, ◌^◌, ◌<◌, ◌≤◌, drop}
use Rattle.vlog_tree.specs.Value.{own, own_defined}
use Rattle.vlog_tree_values.specs.Shapes.{each_formed, each_row}
use Rattle.vlog_tree_values.proofs.evaluate.+evaluation.Given as goal

-- the bits so far, and those to come
abbrev pub invariant-row_width-loop-item : goal.invariant-row_width-loop-item
invariant-row_width-loop-item l = record {
  rest : each_formed l.valuation l.items → each_formed l.valuation (drop l.item-index l.items);
  whole : each_formed l.valuation (drop l.item-index l.items) → each_formed l.valuation l.items;
  width : l.width + (each_row l.valuation (drop l.item-index l.items)).width ≡ (each_row l.valuation l.items).width;
  most : l.width ≤ 64;
}

-- the number so far, and the bits to come
abbrev pub invariant-row_word-loop-item : goal.invariant-row_word-loop-item
invariant-row_word-loop-item l = record {
  formed : each_formed l.valuation (drop l.item-index l.items);
  defined : own_defined (each_row l.valuation l.items) ≡ own_defined (each_row l.valuation (drop l.item-index l.items));
  width : l.width + (each_row l.valuation (drop l.item-index l.items)).width ≡ (each_row l.valuation l.items).width;
  fits : l.number < 2 ^ l.width;
  number : l.number * 2 ^ (each_row l.valuation (drop l.item-index l.items)).width + own (each_row l.valuation (drop l.item-index l.items)) ≡ own (each_row l.valuation l.items);
}
