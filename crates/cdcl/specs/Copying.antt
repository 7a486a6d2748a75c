use Rattle.std.specs.Prelude.{◌≡◌, ◌<◌, ◌≤◌, ◌+◌, ℕ, List, length, slice_index_or, slice_range}
use Rattle.clause_check.specs.declared.literal.Lit.{Lit}
use Rattle.clause_check.specs.Derivations.{IsClauseAt}

-- of the lists that stand one after another, the one of this number, which ends where the next begins
abbrev pub part_at : List Lit → List ℕ → ℕ → List Lit
part_at lits bounds number = slice_range lits (slice_index_or bounds number 0) (slice_index_or bounds (number + 1) 0)

-- the clause of this number stands between its bounds
pub record IsCopyOf (vars : ℕ) (clauses : List (List Lit)) (lits : List Lit) (bounds : List ℕ) (number : ℕ) : Type 0 where
  pub known : number + 1 < length bounds
  pub ordered : slice_index_or bounds number 0 ≤ slice_index_or bounds (number + 1) 0
  pub within : slice_index_or bounds (number + 1) 0 ≤ length lits
  pub clause : IsClauseAt vars clauses number (part_at lits bounds number)

-- so many clauses stand one after another
pub record IsCopied (vars : ℕ) (clauses : List (List Lit)) (count : ℕ) (lits : List Lit) (bounds : List ℕ) : Type 0 where
  pub len : length bounds ≡ count + 1
  pub last : slice_index_or bounds count 0 ≡ length lits
  pub each : (k : ℕ) → k < count → IsCopyOf vars clauses lits bounds k
