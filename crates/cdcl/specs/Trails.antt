use Rattle.std.specs.Prelude.{◌≡◌, ◌≢◌, ◌<◌, ◌≤◌, ◌+◌, ℕ, Bool, List, length, map, count_by, Option, is_none, All, AllPairs, slice_index_or}
use Rattle.clause_check.specs.declared.literal.Lit.{Lit}
use Rattle.clause_check.specs.Looks.{Shows}
use Rattle.cdcl.specs.declared.trail.Entry.{Entry}

-- what contracts see of a trail: the number of variables, and the literals that are true
pub record Assigned : Type 0 where
  pub vars : ℕ
  pub entries : List Entry

abbrev pub lits_of : List Entry → List Lit
lits_of entries = map (λ e. e.lit) entries

-- no variable stands twice, and each is one of these many
pub record IsTrail (vars : ℕ) (entries : List Entry) : Type 0 where
  pub in_range : All (λ e. e.lit.var < vars) entries
  pub distinct : AllPairs (λ d e. d.lit.var ≢ e.lit.var) entries
  pub few : length entries ≤ vars

-- the entry at p is of this variable
pub record IsPlaceOf (entries : List Entry) (var p : ℕ) : Type 0 where
  pub within : p < length entries
  pub is : (d : Entry) → (slice_index_or entries p d).lit.var ≡ var

abbrev pub IsAssigned : List Entry → ℕ → Type 0
IsAssigned entries var = (p : ℕ) × IsPlaceOf entries var p

-- what is kept beside the list says the same
pub record Agrees (values : List (Option Bool)) (places : List ℕ) (entries : List Entry) : Type 0 where
  pub same_len : length places ≡ length values
  pub shows : Shows values (lits_of entries)
  pub in_range : All (λ e. e.lit.var < length values) entries
  pub placed : (p : ℕ) (d : Entry) → p < length entries → slice_index_or places (slice_index_or entries p d).lit.var 0 ≡ p
  pub counted : count_by is_none values + length entries ≡ length values
