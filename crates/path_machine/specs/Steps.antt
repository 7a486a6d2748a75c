-- What follows a property of a path.
use Rattle.std.specs.Prelude.{◌≡◌, ℕ, ◌+◌, ◌<◌, [], ◌∷◌, List, length, drop, Some}
use Rattle.set_tree.specs.declared.path.At.{At}
use Rattle.set_tree.specs.declared.set.Set.{Set}
use Rattle.set_tree.specs.Meaning.{Meaning, Row}
use Rattle.set_tree.specs.Parts.{end_of, largest_window}
use Rattle.set_tree.specs.Paths.{GoesFrom, next_of}
use Rattle.path_machine.specs.declared.path.After.{After}
use Rattle.path_machine.specs.declared.path.After.TheVariants.{Next, End}

-- another property follows at the end of one, where the largest window still fits
pub record GoesOn (m : Meaning) (set : Set) (rows : List Row) (at next : At) : Type 0 where
  pub n : ℕ
  pub ends : end_of m set at.property (drop at.start rows) ≡ Some n
  pub start : next.start ≡ at.start + n
  pub fits : at.start + n + largest_window set < length rows
  pub first : next_of m set at.property (drop (at.start + n) rows) ≡ Some next.property

-- what follows: another property, or the path ends
abbrev pub IsAfter : Meaning → Set → List Row → At → After → Type 0
IsAfter m set rows at (Next next) = GoesOn m set rows at next
IsAfter m set rows at (End stuck) = GoesFrom m set rows at.property at.start (at ∷ []) stuck
