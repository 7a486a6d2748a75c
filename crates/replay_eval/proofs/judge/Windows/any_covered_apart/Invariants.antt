use Rattle.std.proofs.Common.{◌≡◌, ◌-◌, ℕ, not, drop}
use Rattle.std.specs.List.{list_any}
use Rattle.set_tree.specs.declared.set.Cover.{Cover}
use Rattle.set_tree.specs.Formulas.{meaning_of}
use Rattle.set_tree.specs.Parts.{cover_end}
use Rattle.twin_tests_laws.specs.Tests.{any_from, determined}
use Rattle.replay_eval.specs.Judging.{covers_apart}
use Rattle.replay_eval.proofs.judge.Windows.any_covered_apart.Given as goal

abbrev pub invariant-loop-cover : goal.invariant-loop-cover
invariant-loop-cover l =
    list_any (λ (cover : Cover). any_from cover.from (cover_end cover.to l.n - cover.from) (λ (t : ℕ). not (determined (meaning_of l.self.set.now) l.self.set.now cover.output (drop t l.self.one.now) (drop t l.self.other.now)))) (drop l.cover-index l.cover-items)
    ≡ covers_apart (meaning_of l.self.set.now) l.self.set.now l.at l.n l.self.one.now l.self.other.now
