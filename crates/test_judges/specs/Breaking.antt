-- Which rows break a line of a design: what the rows alone tell of a segment that violates it.
use Rattle.std.specs.Prelude.{◌≡◌, ℕ, true, false, List, drop, Some, slice_get}
use Rattle.set_tree.specs.declared.set.Rule.{Rule}
use Rattle.set_tree.specs.declared.set.Set.{Set}
use Rattle.set_tree.specs.declared.line.Line.{Line}
use Rattle.set_tree.specs.declared.line.Line.TheVariants.{Base, Step, Reset, Operation, End, Split, SameEnd, Choose, Hand, Determine}
use Rattle.set_tree.specs.Lines.{IsWindow}
use Rattle.set_tree.specs.Meaning.{Row, Meaning, holds}
use Rattle.set_tree.specs.Parts.{IsOperation, window_of, assumed, committed}
use Rattle.set_tree.specs.Runs.{MeetsInvariants}

-- the rows of a segment of end m: a window in whose first row the invariants hold
pub record AreSegmentRows (m : Meaning) (set : Set) (end : ℕ) (rows : List Row) : Type 0 where
  pub window : IsWindow m set end rows
  pub invariants : MeetsInvariants m set rows

-- `base i`: the invariant doesn't hold in the one row
pub record BreaksBase (m : Meaning) (set : Set) (rule : Rule) (rows : List Row) : Type 0 where
  pub window : IsWindow m set 0 rows
  pub broken : holds m rule.formula rows ≡ false

-- `step i`: all invariants hold in the first row, and this one doesn't in the second
pub record BreaksStep (m : Meaning) (set : Set) (rule : Rule) (rows : List Row) : Type 0 where
  pub segment : AreSegmentRows m set 1 rows
  pub broken : holds m rule.formula (drop 1 rows) ≡ false

-- `reset`: the reset property doesn't commit
pub record BreaksReset (m : Meaning) (set : Set) (rows : List Row) : Type 0 where
  pub window : IsWindow m set (window_of set 0) rows
  pub broken : committed m set 0 rows ≡ false

-- `op P`: P is assumed and doesn't commit
pub record BreaksOperation (m : Meaning) (set : Set) (p : ℕ) (rows : List Row) : Type 0 where
  pub segment : AreSegmentRows m set (window_of set p) rows
  pub assumes : assumed m set p rows ≡ true
  pub broken : committed m set p rows ≡ false

-- these rows break the line. Rows say nothing of the lines on the set, nor of an invariant or an operation that isn't there
abbrev pub AreBreaking : Meaning → Set → Line → List Row → Type 0
AreBreaking m set (Base i) rows = (rule : Rule) × (slice_get set.invariants i ≡ Some rule) × BreaksBase m set rule rows
AreBreaking m set (Step i) rows = (rule : Rule) × (slice_get set.invariants i ≡ Some rule) × BreaksStep m set rule rows
AreBreaking m set Reset rows = BreaksReset m set rows
AreBreaking m set (Operation p) rows = IsOperation set p × BreaksOperation m set p rows
AreBreaking m set (End p) rows = ⊥
AreBreaking m set (Split p) rows = ⊥
AreBreaking m set (SameEnd p) rows = ⊥
AreBreaking m set (Choose p q) rows = ⊥
AreBreaking m set (Hand p q) rows = ⊥
AreBreaking m set (Determine p) rows = ⊥
