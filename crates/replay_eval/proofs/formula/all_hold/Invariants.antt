use Rattle.std.proofs.Common.{◌≡◌, drop}
use Rattle.set_tree.specs.Formulas.{meaning_of}
use Rattle.set_tree.specs.Meaning.{all_hold}
use Rattle.replay_eval.proofs.formula.all_hold.Given as goal

abbrev pub invariant-loop-formula : goal.invariant-loop-formula
invariant-loop-formula l = all_hold (meaning_of l.set) (drop l.formula-index l.formulas) l.rows ≡ all_hold (meaning_of l.set) l.formulas l.rows
