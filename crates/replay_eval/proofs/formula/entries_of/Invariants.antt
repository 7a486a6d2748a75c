use Rattle.std.proofs.Common.{◌≡◌, ◌++◌, drop}
use Rattle.set_tree.specs.Formulas.{entries_from}
use Rattle.replay_eval.proofs.formula.entries_of.Given as goal

abbrev pub invariant-loop-i : goal.invariant-loop-i
invariant-loop-i l = l.entries ++ entries_from l.names l.i (drop l.i l.rows) ≡ entries_from l.names 0 l.rows
