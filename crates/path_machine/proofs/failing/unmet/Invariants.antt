use Rattle.std.proofs.Common.{ℕ, ◌<◌}
use Rattle.set_tree.specs.Formulas.{meaning_of}
use Rattle.path_machine.specs.Unmet.{FailsAt}
use Rattle.path_machine.proofs.failing.unmet.Given as goal

-- none fails so far
abbrev pub invariant-loop-t : goal.invariant-loop-t
invariant-loop-t l = (s : ℕ) → s < l.t → FailsAt (meaning_of l.sound) l.sound l.rows s → ⊥
