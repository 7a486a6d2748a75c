-- What the formulas of a set with a sound structure may read.
use Rattle.std.specs.Prelude.{◌≡◌, ℕ, ◌+◌, ◌<◌, Some}
use Rattle.std.specs.List.{All}
use Rattle.vlog_tree.specs.declared.expr.Expr.{Expr}
use Rattle.set_tree.specs.declared.set.Property.{Property}
use Rattle.set_tree.specs.declared.set.Set.{Set}
use Rattle.set_tree.specs.Formulas.{meaning_of}
use Rattle.set_tree.specs.Parts.{IsPosition, window_of}
use Rattle.set_tree.specs.Structure.{IsSound}
use Rattle.set_tree_structure.specs.Condition.{IsWellFormed}
use Rattle.twin_tests.specs.Building.{IsReadable}

-- a set that was read, and whose structure is sound
pub record HasStructure (set : Set) : Type 0 where
  pub sound : IsSound (meaning_of set) set
  pub formed : IsWellFormed set

-- the formulas of a property read none but the rows of its window, and the condition at which it ends none but the first
pub record ReadsWindow (set : Set) (property : Property) : Type 0 where
  pub assumptions : All (IsReadable set (property.window + 1)) property.assume
  pub commitments : All (IsReadable set (property.window + 1)) property.commit
  pub hands : All (IsReadable set (property.window + 1)) property.hand
  pub until : (e : Expr) → property.length.until ≡ Some e → IsReadable set 1 e

-- a property whose window fits into so many rows
abbrev pub FollowsWithin : Set → ℕ → ℕ → Type 0
FollowsWithin set k q = IsPosition set q × (window_of set q < k)
