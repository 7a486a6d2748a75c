-- Two implied steps, of which one is new to propagation.
use Rattle.std.specs.Prelude.{ℕ, true, false, List, [], ◌∷◌, All, Contains}
use Rattle.clause_check.specs.declared.literal.Lit.{Lit}
use Rattle.clause_check.specs.Derivations.{Refutes}
use Rattle.cdcl.specs.Closed.{IsNew}

-- variable n, and its negation
abbrev pub plus : ℕ → Lit
plus n = record { var = n; negative = false }

abbrev pub minus : ℕ → Lit
minus n = record { var = n; negative = true }

-- (1 2) and (1 -2), from which (1) follows
abbrev pub on_both_sides : List (List Lit)
on_both_sides = (plus 1 ∷ plus 2 ∷ []) ∷ (plus 1 ∷ minus 2 ∷ []) ∷ []

-- (-1 2) and (-2 3), from which (-1 3) follows
abbrev pub in_a_row : List (List Lit)
in_a_row = (minus 1 ∷ plus 2 ∷ []) ∷ (minus 2 ∷ plus 3 ∷ []) ∷ []

abbrev pub HasAll : List Lit → List Lit → Type 0
HasAll clause part = (l : Lit) → Contains part l → Contains clause l

-- Both are implied by the first clause and then the second one. The first is new; the second isn't, though it has no earlier clause in it.
pub record ExampleSteps : Type 0 where
  pub one_follows : Refutes on_both_sides (minus 1 ∷ []) (0 ∷ 1 ∷ [])
  pub one_is_new : IsNew on_both_sides (plus 1 ∷ [])
  pub other_follows : Refutes in_a_row (plus 1 ∷ minus 3 ∷ []) (0 ∷ 1 ∷ [])
  pub other_has_none : All (λ part. HasAll (minus 1 ∷ plus 3 ∷ []) part → ⊥) in_a_row
  pub other_is_not_new : IsNew in_a_row (minus 1 ∷ plus 3 ∷ []) → ⊥
