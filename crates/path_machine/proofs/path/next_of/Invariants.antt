use Rattle.std.proofs.Common.{◌≡◌, ℕ, drop}
use Rattle.std.specs.List.{find}
use Rattle.set_tree.specs.Formulas.{meaning_of}
use Rattle.set_tree.specs.Parts.{assumed}
use Rattle.set_tree.specs.Paths.{next_of}
use Rattle.path_machine.proofs.path.next_of.Given as goal

-- the first among the successors that are left
abbrev pub invariant-loop-successor : goal.invariant-loop-successor
invariant-loop-successor l = find (λ (q : ℕ). assumed (meaning_of l.set) l.set q l.rows) (drop l.successor-index l.successor-items) ≡ next_of (meaning_of l.set) l.set l.at l.rows
