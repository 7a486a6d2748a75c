use Rattle.std.specs.Prelude.{◌≡◌, ◌<◌, ◌≤◌, ◌-◌, ◌⊎◌, ℕ, List, [], ◌∷◌, ◌++◌, length, take, slice_index_or, slice_range}
use Rattle.clause_check.specs.declared.literal.Lit.{Lit}
use Rattle.clause_check.specs.Clauses.{IsClause}

-- the lists that stand one after another, each from its bound to the next
abbrev pub parts : List Lit → List ℕ → List (List Lit)
parts lits [] = []
parts lits (a ∷ []) = []
parts lits (a ∷ b ∷ bs) = slice_range lits a b ∷ parts lits (b ∷ bs)

-- the bounds rise to the end of the literals, and between any two neighbours stands a clause
abbrev pub IsCut : List Lit → List ℕ → Type 0
IsCut lits [] = ⊥
IsCut lits (a ∷ []) = a ≡ length lits
IsCut lits (a ∷ b ∷ bs) = (a ≤ b) × IsClause (slice_range lits a b) × IsCut lits (b ∷ bs)

-- The last bound is gone, and the literals behind the one before it, where there are two bounds
abbrev pub IsPopped : List Lit → List ℕ → List Lit → List ℕ → Type 0
IsPopped lits bounds left_lits left =
    ((length bounds ≤ 1) × (left_lits ≡ lits) × (left ≡ bounds))
    ⊎ ((e : ℕ) × (bounds ≡ left ++ e ∷ []) × (0 < length left) × (left_lits ≡ take (slice_index_or left (length left - 1) 0) lits))
