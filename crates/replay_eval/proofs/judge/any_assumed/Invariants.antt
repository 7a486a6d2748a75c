use Rattle.std.proofs.Common.{◌≡◌, ℕ, drop}
use Rattle.std.specs.List.{list_any}
use Rattle.set_tree.specs.Formulas.{meaning_of}
use Rattle.set_tree.specs.Parts.{assumed}
use Rattle.replay_eval.proofs.judge.any_assumed.Given as goal

abbrev pub invariant-loop-successor : goal.invariant-loop-successor
invariant-loop-successor l = list_any (λ (q : ℕ). assumed (meaning_of l.set) l.set q l.rows) (drop l.successor-index l.next) ≡ list_any (λ (q : ℕ). assumed (meaning_of l.set) l.set q l.rows) l.next
