-- Which windows violate a line of a set.
use Rattle.std.specs.Prelude.{◌≡◌, ℕ, ◌+◌, ◌-◌, ◌&&◌, Bool, true, false, not, nat_eq, List, length, drop, Option, Some, None}
use Rattle.std.specs.List.{list_any}
use Rattle.set_tree.specs.declared.set.Set.{Set}
use Rattle.set_tree.specs.declared.set.Cover.{Cover}
use Rattle.set_tree.specs.declared.line.Line.{Line}
use Rattle.set_tree.specs.declared.line.Line.TheVariants.{Base, Step, Reset, Operation, End, Split, SameEnd, Choose, Hand, Determine}
use Rattle.set_tree.specs.Meaning.{Row, Meaning}
use Rattle.set_tree.specs.Parts.{IsPosition, property_at, cover_end, end_of}
use Rattle.set_tree.specs.Traces.{IsTrace, SameInputs}
use Rattle.set_tree.specs.Lines.{ViolatesEnd, ViolatesSplit, ViolatesSameEnd, ViolatesChoose, ViolatesHand, ViolatesDetermine}
use Rattle.twin_tests_laws.specs.Tests.{any_from, determined, opens, pairs}

-- the properties that a line names are there
abbrev pub NamesProperties : Set → Line → Type 0
NamesProperties set (Base i) = Unit {0}
NamesProperties set (Step i) = Unit {0}
NamesProperties set Reset = Unit {0}
NamesProperties set (Operation p) = Unit {0}
NamesProperties set (End p) = IsPosition set p
NamesProperties set (Split p) = IsPosition set p
NamesProperties set (SameEnd p) = IsPosition set p
NamesProperties set (Choose p q) = IsPosition set p × IsPosition set q
NamesProperties set (Hand p q) = IsPosition set p × IsPosition set q
NamesProperties set (Determine p) = IsPosition set p

-- some cover of P, which ends at n, claims an output at an offset at which it isn't determined
abbrev pub Undetermines : Meaning → Set → ℕ → ℕ → List Row → List Row → Type 0
Undetermines m set p n xs ys = (cover : Cover) × (at : ℕ) × ViolatesDetermine m set p n cover at xs ys

-- these windows violate the line; where it speaks of an end of its property, that is n. Windows say nothing of the lines on a design
abbrev pub AreViolating : Meaning → Set → Line → ℕ → List Row → List Row → Type 0
AreViolating m set (Base i) n xs ys = ⊥
AreViolating m set (Step i) n xs ys = ⊥
AreViolating m set Reset n xs ys = ⊥
AreViolating m set (Operation p) n xs ys = ⊥
AreViolating m set (End p) n xs ys = ViolatesEnd m set p xs
AreViolating m set (Split p) n xs ys = ViolatesSplit m set p n xs
AreViolating m set (SameEnd p) n xs ys = ViolatesSameEnd m set p xs ys
AreViolating m set (Choose p q) n xs ys = ViolatesChoose m set p q n xs ys
AreViolating m set (Hand p q) n xs ys = ViolatesHand m set p q n xs ys
AreViolating m set (Determine p) n xs ys = Undetermines m set p n xs ys

-- a trace of end + 1 rows
pub record IsSized (set : Set) (end : ℕ) (rows : List Row) : Type 0 where
  pub size : length rows ≡ end + 1
  pub trace : IsTrace set rows

-- two of them with the same inputs
pub record AreSized (set : Set) (end : ℕ) (xs ys : List Row) : Type 0 where
  pub first : IsSized set end xs
  pub second : IsSized set end ys
  pub inputs : SameInputs set xs ys

-- ---- ends, as tests

abbrev pub is_same : Option ℕ → Option ℕ → Bool
is_same None None = true
is_same None (Some n) = false
is_same (Some k) None = false
is_same (Some k) (Some n) = nat_eq k n

-- P starts and has no end
abbrev pub endless : Meaning → Set → ℕ → List Row → Bool
endless m set p rows = opens m set p rows && is_same (end_of m set p rows) None

-- P starts in both traces and ends at different offsets
abbrev pub ends_apart : Meaning → Set → ℕ → List Row → List Row → Bool
ends_apart m set p xs ys = pairs m set p xs ys && not (is_same (end_of m set p xs) (end_of m set p ys))

-- a cover of P, which ends at n, claims an output that isn't determined
abbrev pub covers_apart : Meaning → Set → ℕ → ℕ → List Row → List Row → Bool
covers_apart m set p n xs ys =
    list_any (λ (cover : Cover). any_from cover.from (cover_end cover.to n - cover.from) (λ at. not (determined m set cover.output (drop at xs) (drop at ys)))) (property_at set p).covers
