-- Windows of sets without constraints, and rows of two names.
use Rattle.std.proofs.Common.{◌≡◌, ℕ, ◌+◌, nat_eq, false, List, [], length, subst, arith, refl, ◌∷◌}
use Rattle.std.proofs.lemmas.Bool.{eq-eqb}
use Rattle.std.specs.List.{Contains}
use Rattle.set_tree.specs.declared.set.Name.{Name}
use Rattle.set_tree.specs.declared.set.Rule.{Rule}
use Rattle.set_tree.specs.declared.set.Set.{Set}
use Rattle.set_tree.specs.Meaning.{Row, Meaning}
use Rattle.set_tree.specs.Traces.{IsRow, IsTrace, IsConstrained}
use Rattle.set_tree.specs.Lines.{IsWindow}

-- without constraints each trace is constrained
pub free_trace : (m : Meaning) (set : Set) (rows : List Row) → set.constraints ≡ [] → IsTrace set rows → IsConstrained m set rows
free_trace m set rows free trace = record {
  trace = trace;
  met = λ rule t member fits.
      let none : Contains [] rule = subst (λ (rules : List Rule). Contains rules rule) free member in
      absurd (omega (arith, none.1));
}

-- and each trace of m + 1 rows is a window of end m
pub free_window : (m : Meaning) (set : Set) (end : ℕ) (rows : List Row) → set.constraints ≡ [] → length rows ≡ end + 1 → IsTrace set rows → IsWindow m set end rows
free_window m set end rows free size trace = record { size = size; constrained = free_trace m set rows free trace }

-- numbers that a test tells apart aren't equal
pub apart : (a b : ℕ) → a ≡ b → nat_eq a b ≡ false → ⊥
apart a b same differ = let e = eq-eqb a b same in cc

-- a row of two names has two values
pub row_of_two : (x y : Name) (row : Row) → IsRow (x ∷ y ∷ []) row → (a b : ℕ) × (row ≡ a ∷ b ∷ [])
row_of_two x y [] r = absurd r
row_of_two x y (a ∷ []) r = absurd r.1
row_of_two x y (a ∷ b ∷ []) r = (a, b, refl)
row_of_two x y (a ∷ b ∷ c ∷ row) r = absurd r.1.1
