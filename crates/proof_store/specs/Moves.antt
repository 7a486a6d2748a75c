-- Rows that are put again as records of version 2.
use Rattle.std.specs.Prelude.{◌≡◌, ℕ, ◌+◌, ◌≤◌, List, Bool, true, false, Option, Some, None, Vec, IsTrue, ◌↔◌, ◌⊎◌, All, Contains, count_by, length, min, take}
use Rattle.std.specs.List.{AllZip}
use Rattle.std.specs.declared.alloc.Global.{Global}
use Rattle.std.specs.FinMap.{get, keys}
use Rattle.outside.specs.Tables.{Tables, with_proof}
use Rattle.clause_check.specs.declared.formula.Step.{Step}
use Rattle.proof_store_records.specs.Records.{Fits, FitsVersion1, HasClauses, version_1, version_2}
use Rattle.proof_store.specs.declared.moving.Moved.{Moved}

-- the bytes are a record of version 1 of steps that fit version 2, whose record of version 2 has these bytes and isn't longer
pub record CanMove (bytes second : List ℕ) : Type 0 where
  pub steps : List Step
  pub clauses : HasClauses steps
  pub fits_first : FitsVersion1 steps
  pub first : bytes ≡ version_1 steps
  pub fits : Fits steps
  pub are : second ≡ version_2 steps
  pub not_longer : length second ≤ length bytes

-- a row stands under this key that could be moved
pub record CouldMove (t : Tables) (key : List ℕ) : Type 0 where
  pub bytes : List ℕ
  pub second : List ℕ
  pub row : get t.proofs key ≡ Some bytes
  pub can : CanMove bytes second

-- the row under this key was moved
pub record IsMoved (before after : Tables) (key : List ℕ) : Type 0 where
  pub bytes : List ℕ
  pub second : List ℕ
  pub row : get before.proofs key ≡ Some bytes
  pub can : CanMove bytes second
  pub now : get after.proofs key ≡ Some second

-- each row of the proofs is as before or was moved, and all else is as before
pub record MovesRows (before after : Tables) : Type 0 where
  pub blocks : after.blocks ≡ before.blocks
  pub signs : after.signs ≡ before.signs
  pub proofs : (key : List ℕ) → (get after.proofs key ≡ get before.proofs key) ⊎ IsMoved before after key

-- so many of these keys have a row that could be moved: a flag for each, which is true exactly where it could
pub record CountsMoved (t : Tables) (handed : List (List ℕ)) (many : ℕ) : Type 0 where
  pub flags : List Bool
  pub each : AllZip (λ key flag. IsTrue flag ↔ CouldMove t key) handed flags
  pub are : many ≡ count_by (λ flag. flag) flags

-- of the rows under these keys so many could be moved, and none can any more; no row under another key is touched
pub record MovesAll (handed : List (List ℕ)) (many : ℕ) (before after : Tables) : Type 0 where
  pub rows : MovesRows before after
  pub counts : CountsMoved before handed many
  pub none_left : All (λ key. CouldMove after key → ⊥) handed
  pub others : (key : List ℕ) → (Contains handed key → ⊥) → get after.proofs key ≡ get before.proofs key

-- the walk handed out the least keys, at most so many of them
pub record Walks (most : ℕ) (m : Moved) (before after : Tables) : Type 0 where
  pub all : m.moved + m.left ≡ min most (length (keys before.proofs))
  pub moves : MovesAll (take most (keys before.proofs)) m.moved before after

-- the row under this key was moved, or none could be and all is as before
abbrev pub MovesRow : List ℕ → Bool → Tables → Tables → Type 0
MovesRow key true before after =
    (bytes : List ℕ) × (second : List ℕ) × (get before.proofs key ≡ Some bytes) × CanMove bytes second × (after ≡ with_proof key second before)
MovesRow key false before after = (CouldMove before key → ⊥) × (after ≡ before)

-- what is made of a row's bytes: the bytes to which it could be moved, and none where it can't
abbrev pub IsSecondOf : List ℕ → Option (Vec ℕ Global) → Type 0
IsSecondOf bytes (Some second) = CanMove bytes second.items
IsSecondOf bytes None = (second : List ℕ) → CanMove bytes second → ⊥
