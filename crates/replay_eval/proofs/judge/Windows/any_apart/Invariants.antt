use Rattle.std.proofs.Common.{◌≡◌, ℕ, ◌-◌, not, drop}
use Rattle.set_tree.specs.Formulas.{meaning_of}
use Rattle.twin_tests_laws.specs.Tests.{any_from, determined}
use Rattle.replay_eval.proofs.judge.Windows.any_apart.Given as goal

abbrev pub invariant-loop-at : goal.invariant-loop-at
invariant-loop-at l =
    any_from l.at (l.to - l.at) (λ (t : ℕ). not (determined (meaning_of l.self.set.now) l.self.set.now l.output (drop t l.self.one.now) (drop t l.self.other.now)))
    ≡ any_from l.from (l.to - l.from) (λ (t : ℕ). not (determined (meaning_of l.self.set.now) l.self.set.now l.output (drop t l.self.one.now) (drop t l.self.other.now)))
