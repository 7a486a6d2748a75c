use Rattle.std.proofs.Common.{◌≡◌, ◌<◌, ◌≤◌, ℕ, List, length, get_or, ap, sym, arith, inl, inr, eq-eqb}
use Rattle.std.specs.Prelude.{AllPairs, nat_eq}
use Rattle.std.proofs.lemmas.Bool.{cases_lt, ne_eqb}
use Rattle.std.proofs.lemmas.List.Sums.{position_or_len_is}
use Rattle.clause_check_texts.specs.Steps.{place_of}

module _ (ids : List ℕ) (rising : AllPairs (λ a b. a < b) ids) where
  pub not_falling : (i j : ℕ) → i ≤ j → j < length ids → get_or ids i 0 ≤ get_or ids j 0
  not_falling i j le lt = elim (cases_lt i j) [
    | inl below ↦ omega (arith, rising i j 0 below lt)
    | inr above ↦ let e : i ≡ j = omega arith in omega (arith, ap (λ k. get_or ids k 0) e)
  ]

  pub place_found : (id i : ℕ) → i < length ids → get_or ids i 0 ≡ id → i ≡ place_of ids id
  place_found id i lt e =
      sym (position_or_len_is (λ j. nat_eq j id) ids i 0 (omega arith) (λ k h. ne_eqb (get_or ids k 0) id (λ s. absurd (omega (arith, rising k i 0 h lt)))) (λ _. eq-eqb (get_or ids i 0) id e))

pub place_none : (ids : List ℕ) (id : ℕ) → ((k : ℕ) → k < length ids → get_or ids k 0 ≡ id → ⊥) → length ids ≡ place_of ids id
place_none ids id none =
    sym (position_or_len_is (λ j. nat_eq j id) ids (length ids) 0 (omega arith) (λ k h. ne_eqb (get_or ids k 0) id (none k h)) (λ h. absurd (omega arith)))

pub not_between : (ids : List ℕ) (id i : ℕ) → ((k : ℕ) → k < i → get_or ids k 0 < id) → ((k : ℕ) → i ≤ k → k < length ids → id < get_or ids k 0) → (k : ℕ) → k < length ids → get_or ids k 0 ≡ id → ⊥
not_between ids id i below above k lt e = elim (cases_lt k i) [ inl h ↦ absurd (omega (arith, below k h)) | inr h ↦ absurd (omega (arith, above k h lt)) ]
