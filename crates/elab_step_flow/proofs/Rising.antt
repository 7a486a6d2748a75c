-- Numbers in their order, each once.
use Rattle.std.proofs.Common.{◌≡◌, ℕ, zero, suc, ◌<◌, ◌≤◌, ◌⊎◌, inl, inr, Bool, List, [], ◌∷◌, length, get_or, Some, Result, Ok, Err, nat_cmp, arith, refl, sym, ap, subst}
use Rattle.std.specs.Prelude.{MatchBool, is_ok}
use Rattle.std.specs.List.{slice_get, Contains}
use Rattle.std.specs.List.Sorted.{IsStrictlyIncreasing, IsBinarySearchResult}
use Rattle.std.proofs.lemmas.Bool.{cases_lt}
use Rattle.std.proofs.lemmas.List.Sorted.{searched}
use Rattle.std.proofs.lemmas.Map.Keys.{sorted_from_strictly_increasing, below_from_sorted}
use Rattle.vlog_tree_runs.specs.Places.{Among}
use Rattle.elab_step_flow.proofs.Choosing.{got, got_lt}

apart : (i j : ℕ) → (i ≡ j) ⊎ ((i < j) ⊎ (j < i))
apart zero zero = inl refl
apart zero (suc j) = inr (inl (omega arith))
apart (suc i) zero = inr (inr (omega arith))
apart (suc i) (suc j) = elim (apart i j) [ inl e ↦ inl (ap suc e) | inr h ↦ inr (elim h [ inl k ↦ inl (omega arith) | inr k ↦ inr (omega arith) ]) ]

below : (xs : List ℕ) → IsStrictlyIncreasing xs → (i j m : ℕ) → slice_get xs i ≡ Some m → slice_get xs j ≡ Some m → i < j → ⊥
below xs rises i j m a b lt =
    let k : get_or xs i 0 < get_or xs j 0 = below_from_sorted xs i j 0 (sorted_from_strictly_increasing xs rises) lt (got_lt xs j m b) in
    let e : get_or xs i 0 ≡ m = got xs i m 0 a in
    let f : get_or xs j 0 ≡ m = got xs j m 0 b in
    omega arith

-- each stands there once
pub once : (xs : List ℕ) → IsStrictlyIncreasing xs → (i j m : ℕ) → slice_get xs i ≡ Some m → slice_get xs j ≡ Some m → i ≡ j
once xs rises i j m a b = elim (apart i j) [
  | inl e ↦ e
  | inr h ↦ absurd (elim h [ inl k ↦ below xs rises i j m a b k | inr k ↦ below xs rises j i m b a k ])
]

pub contains_among : (xs : List ℕ) (x : ℕ) → Contains xs x → Among xs x
contains_among [] x (k, lt, e) = omega arith
contains_among (y ∷ ys) x (zero, lt, e) = inl e
contains_among (y ∷ ys) x (suc k, lt, e) = inr (contains_among ys x (k, omega arith, e))

pub among_contains : (xs : List ℕ) (x : ℕ) → Among xs x → Contains xs x
among_contains [] x h = absurd h
among_contains (y ∷ ys) x (inl e) = (0, omega arith, e)
among_contains (y ∷ ys) x (inr h) = let r = among_contains ys x h in (suc r.0, omega arith, r.2)

-- ---- whether one stands there

among_index : (xs : List ℕ) (x : ℕ) → Among xs x → (k : ℕ) × (k < length xs) × (get_or xs k 0 ≡ x)
among_index [] x h = absurd h
among_index (y ∷ ys) x (inl e) = (0, omega arith, e)
among_index (y ∷ ys) x (inr h) = let r = among_index ys x h in let lt : r.0 < length ys = r.1 in (suc r.0, omega arith, r.2)

index_among : (xs : List ℕ) (k x : ℕ) → k < length xs → get_or xs k 0 ≡ x → Among xs x
index_among [] k x lt e = absurd (omega arith)
index_among (y ∷ ys) zero x lt e = inl e
index_among (y ∷ ys) (suc k) x lt e = inr (index_among ys k x (omega arith) e)

rising_up : (xs : List ℕ) → IsStrictlyIncreasing xs → (i j : ℕ) → i ≤ j → j < length xs → get_or xs i 0 ≤ get_or xs j 0
rising_up xs rises i j le lt = elim (apart i j) [
  | inl e ↦ (let same : get_or xs i 0 ≡ get_or xs j 0 = ap (λ k. get_or xs k 0) e in omega arith)
  | inr h ↦ elim h [ inl k ↦ (let f : get_or xs i 0 < get_or xs j 0 = below_from_sorted xs i j 0 (sorted_from_strictly_increasing xs rises) k lt in omega arith) | inr k ↦ absurd (omega arith) ]
]

pub sought : (xs : List ℕ) (x : ℕ) (r : Result ℕ ℕ) (b : Bool) → IsStrictlyIncreasing xs → IsBinarySearchResult (λ y. nat_cmp y x) xs r → b ≡ is_ok r → MatchBool b (Among xs x) (Among xs x → ⊥)
sought xs x (Ok i) b rises found e =
    let k = searched xs x (Ok i) found (rising_up xs rises) in
    subst (λ z. MatchBool z (Among xs x) (Among xs x → ⊥)) (sym e) (index_among xs i x k.0 k.1)
sought xs x (Err i) b rises found e =
    let k = searched xs x (Err i) found (rising_up xs rises) in
    subst (λ z. MatchBool z (Among xs x) (Among xs x → ⊥)) (sym e) (λ h. let m = among_index xs x h in outside k m.0 m.1 m.2)
  where
    outside : (i ≤ length xs) × ((k : ℕ) → k < i → get_or xs k 0 < x) × ((k : ℕ) → i ≤ k → k < length xs → x < get_or xs k 0) → (j : ℕ) → j < length xs → get_or xs j 0 ≡ x → ⊥
    outside k j lt e = elim (cases_lt j i) [ inl l ↦ (let f : get_or xs j 0 < x = k.1 j l in omega arith) | inr g ↦ (let f : x < get_or xs j 0 = k.2 j g lt in omega arith) ]
