use Rattle.std.proofs.Common.{◌≡◌, ◌<◌, ◌↔◌, ℕ, false, List, map, length, get_or, sym, ◌∙◌, ap, eqb, arith, inl, inr}
use Rattle.std.specs.List.Sorted.{IsPermutation, IsSorted, IsStrictlyIncreasing}
use Rattle.std.specs.Ordering.{nat_cmp}
use Rattle.std.proofs.lemmas.Bool.{cases_eq, eqb-false, ne_eqb}
use Rattle.std.proofs.lemmas.List.{get_or-map, length-map}
use Rattle.std.proofs.lemmas.List.Kept.{AllPairs-from_increasing}
use Rattle.std.proofs.lemmas.List.Sorted.{IsNonDecreasingBy-from_sort, IsPermutation-sym}
use Rattle.std.proofs.lemmas.Map.Keys.{IsDistinct-IsPermutation, IsDistinct-from_apart, IsStrictlyIncreasing-from_distinct, apart_from_distinct}
use Rattle.clause_check.specs.declared.literal.Lit.{Lit}
use Rattle.clause_check.specs.Clauses.{IsClause}

abbrev var_of : Lit → ℕ
var_of l = l.var

abbrev vars_of : List Lit → List ℕ
vars_of lits = map (λ l. l.var) lits

flips : (x y : ℕ) → eqb x y ≡ eqb y x
flips x y = elim (cases_eq x y) [
  | inl e ↦ ap (λ n. eqb x n) (sym e) ∙ ap (λ n. eqb n x) e
  | inr ne ↦ ne_eqb x y ne ∙ sym (ne_eqb y x (λ e. ne (sym e)))
]

-- a clause's variables, sorted, rise
pub clause_from_sorted : (lits : List Lit) (sorted : List ℕ) → IsPermutation (vars_of lits) sorted → IsSorted nat_cmp sorted → IsStrictlyIncreasing sorted ↔ IsClause lits
clause_from_sorted lits sorted moves order = (
  λ rising.
      let apart = IsDistinct-from_apart eqb sorted (λ i j d lt inside. ne_eqb (get_or sorted i d) (get_or sorted j d) (λ e. let below = AllPairs-from_increasing sorted rising i j d lt inside in omega arith)) in
      let back = IsDistinct-IsPermutation eqb flips sorted (vars_of lits) (IsPermutation-sym (vars_of lits) sorted moves) apart in
      λ i j d lt inside e. eqb-false (get_or (vars_of lits) i d.var) (get_or (vars_of lits) j d.var) (apart_from_distinct eqb (vars_of lits) i j d.var back lt (omega (arith, length-map lits var_of)))
      (get_or-map var_of lits i d d.var (omega arith) ∙ (e ∙ sym (get_or-map var_of lits j d d.var inside))),
  λ distinct.
      IsStrictlyIncreasing-from_distinct sorted (IsNonDecreasingBy-from_sort (λ x. x) sorted order)
      (IsDistinct-IsPermutation eqb flips (vars_of lits) sorted moves (IsDistinct-from_apart eqb (vars_of lits) (λ i j d lt inside. ne_eqb (get_or (vars_of lits) i d) (get_or (vars_of lits) j d) (λ e.
      let z : Lit = record { var = d; negative = false } in
      let last : j < length lits = omega (arith, length-map lits var_of) in
      distinct i j z lt last (sym (get_or-map var_of lits i z d (omega arith)) ∙ (e ∙ get_or-map var_of lits j z d last)))))),
)
