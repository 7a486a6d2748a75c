use Rattle.std.proofs.Common.{◌≡◌, true, drop}
use Rattle.set_tree.specs.Formulas.{meaning_of}
use Rattle.set_tree.specs.Meaning.{holds}
use Rattle.twin_tests_laws.specs.Tests.{all_below}
use Rattle.replay_eval.proofs.property.holds_throughout.Given as goal

abbrev pub invariant-loop-t : goal.invariant-loop-t
invariant-loop-t l = all_below l.t (λ t. holds (meaning_of l.set) l.formula (drop t l.rows)) ≡ true
