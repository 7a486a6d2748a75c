use Rattle.std.proofs.Common.{◌≡◌, ◌++◌, codes, decimal, drop}
use Rattle.vlog_tree.specs.Valuation.{entry_at}
use Rattle.vlog_tree_values.proofs.names.word_value.Given as goal

-- what was passed has another name or offset
abbrev pub invariant-loop-entry : goal.invariant-loop-entry
invariant-loop-entry l =
    entry_at l.valuation (l.name.text ++ codes "$" ++ decimal l.index) l.name.offset ≡ entry_at (drop l.entry-index l.entry-items) (l.name.text ++ codes "$" ++ decimal l.index) l.name.offset
