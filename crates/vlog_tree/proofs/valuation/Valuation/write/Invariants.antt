use Rattle.std.proofs.Common.{◌≡◌, take}
use Rattle.vlog_tree.specs.Valuation.{written}
use Rattle.vlog_tree.proofs.valuation.Valuation.write.Given as goal

-- the values so far are written
abbrev pub invariant-loop-i : goal.invariant-loop-i
invariant-loop-i l = record {
  so_far : l.self-inside.entries.items ≡ written l.initial.self-inside.entries.items (take l.i l.values);
  same : l.self-inside.first ≡ l.initial.self-inside.first;
}
