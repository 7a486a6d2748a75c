use Rattle.std.proofs.Common.{ℕ, ◌≤◌, ◌<◌, get_or}
use Rattle.set_tree.specs.declared.set.Property.{Property}
use Rattle.twin_tests.proofs.frame.largest_window.Given as goal

-- no window so far is larger
abbrev pub invariant-loop-property : goal.invariant-loop-property
invariant-loop-property l = (l.largest ≤ 64) × (l.set.first.window ≤ l.largest) × ((i : ℕ) (d : Property) → i < l.property-index → (get_or l.property-items i d).window ≤ l.largest)
