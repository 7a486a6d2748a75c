use Rattle.std.proofs.Common.{◌≡◌, ◌++◌, drop}
use Rattle.set_tree.specs.Formulas.{row_entries}
use Rattle.replay_eval.proofs.formula.add_row.Given as goal

abbrev pub invariant-loop-i : goal.invariant-loop-i
invariant-loop-i l = l.entries ++ row_entries (drop l.i l.names) l.offset (drop l.i l.row) ≡ l.fn.entries ++ row_entries l.names l.offset l.row
