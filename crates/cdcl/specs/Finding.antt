use Rattle.std.specs.Prelude.{◌≢◌, ◌<◌, ◌≤◌, ℕ, Bool, List, length, Option, slice_index_or}
use Rattle.clause_check.specs.declared.literal.Lit.{Lit}
use Rattle.clause_check.specs.Looks.{IsFalseIn}

-- the literal at place i of the clause is neither false nor of this variable
pub record IsOther (clause : List Lit) (var : ℕ) (values : List (Option Bool)) (i : ℕ) : Type 0 where
  pub within : i < length clause
  pub apart : (d : Lit) → (slice_index_or clause i d).var ≢ var
  pub not_false : (d : Lit) → IsFalseIn values (slice_index_or clause i d) → ⊥

-- each literal at a place from a to below b is false, or of this variable
abbrev pub NoneOther : List Lit → ℕ → List (Option Bool) → ℕ → ℕ → Type 0
NoneOther clause var values a b =
    (i : ℕ) (d : Lit) → a ≤ i → i < b → (slice_index_or clause i d).var ≢ var → IsFalseIn values (slice_index_or clause i d)
