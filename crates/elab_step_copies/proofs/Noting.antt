-- Lists of nodes that get more of them, and that are emptied.
use Rattle.std.proofs.Common.{◌≡◌, ℕ, zero, suc, ◌+◌, ◌<◌, List, [], ◌∷◌, ◌++◌, refl, sym, ap, ◌∙◌, subst, arith, inl, inr, ⊎_elim, length, get_or, set, length-set, Vec, Global}
use Rattle.std.proofs.lemmas.Bool.{cases_eq}
use Rattle.vlog_tree_runs.specs.Places.{Among}
use Rattle.elab_flat_laws.proofs.Lists.{among_append, append_left, append_right}
use Rattle.elab_step_copies.specs.Copies.{list_at}
use Rattle.elab_step_copies.specs.Walks.{IsNoted, IsTaken}

pub list_get : (vs : List (Vec ℕ Global)) (i : ℕ) (v d : Vec ℕ Global) → i < length vs → v ≡ get_or vs i d → list_at vs i ≡ v.items
list_get [] i v d lt is = absurd (omega (arith, lt))
list_get (w ∷ vs) zero v d lt is = ap (λ (u : Vec ℕ Global). u.items) (sym is)
list_get (w ∷ vs) (suc i) v d lt is = list_get vs i v d (omega (arith, lt)) is

pub list_set : (vs : List (Vec ℕ Global)) (i : ℕ) (v : Vec ℕ Global) → i < length vs → list_at (set vs i v) i ≡ v.items
list_set [] i v lt = absurd (omega (arith, lt))
list_set (w ∷ vs) zero v lt = refl
list_set (w ∷ vs) (suc i) v lt = list_set vs i v (omega (arith, lt))

pub list_apart : (vs : List (Vec ℕ Global)) (i j : ℕ) (v : Vec ℕ Global) → (j ≡ i → ⊥) → list_at (set vs i v) j ≡ list_at vs j
list_apart [] i j v other = refl
list_apart (w ∷ vs) zero zero v other = absurd (other refl)
list_apart (w ∷ vs) zero (suc j) v other = refl
list_apart (w ∷ vs) (suc i) zero v other = refl
list_apart (w ∷ vs) (suc i) (suc j) v other = list_apart vs i j v (λ q. other (ap suc q))

pub list_push : (vs : List (Vec ℕ Global)) (v : Vec ℕ Global) (i : ℕ) → ((j : ℕ) → list_at vs j ≡ []) → v.items ≡ [] → list_at (vs ++ v ∷ []) i ≡ []
list_push [] v zero h e = e
list_push [] v (suc i) h e = refl
list_push (w ∷ vs) v zero h e = h 0
list_push (w ∷ vs) v (suc i) h e = list_push vs v i (λ j. h (suc j)) e

-- ---- one more

pub noted_at : (old : List (Vec ℕ Global)) (at n : ℕ) (was now d : Vec ℕ Global) → at < length old → was ≡ get_or old at d → now.items ≡ was.items ++ n ∷ [] → IsNoted old (set old at now) (at ∷ []) n
noted_at old at n was now d lt is put =
    let new = set old at now in
    let here : list_at new at ≡ list_at old at ++ n ∷ [] = list_set old at now lt ∙ (put ∙ ap (λ (xs : List ℕ). xs ++ n ∷ []) (sym (list_get old at was d lt is))) in
    record {
      long = length-set old at now;
      keeps = λ a i m. elim (cases_eq a at) [
        | inl same ↦ subst (λ (v : ℕ). Among (list_at new v) i) (sym same) (subst (λ (xs : List ℕ). Among xs i) (sym here) (append_left (list_at old at) (n ∷ []) i (subst (λ (v : ℕ). Among (list_at old v) i) same m)))
        | inr other ↦ subst (λ (xs : List ℕ). Among xs i) (sym (list_apart old at a now other)) m
      ];
      adds = λ a m. ⊎_elim (λ (q : at ≡ a). subst (λ (v : ℕ). Among (list_at new v) n) q (subst (λ (xs : List ℕ). Among xs n) (sym here) (append_right (list_at old at) (n ∷ []) n (inl refl)))) (λ z. absurd z) m;
      only = λ a i m. elim (cases_eq a at) [
        | inl same ↦
            let mine : Among (list_at old at ++ n ∷ []) i = subst (λ (xs : List ℕ). Among xs i) here (subst (λ (v : ℕ). Among (list_at new v) i) same m) in
            ⊎_elim (λ r. inl (subst (λ (v : ℕ). Among (list_at old v) i) (sym same) r)) (λ r. inr (⊎_elim (λ (q : n ≡ i). sym q) (λ z. absurd z) r)) (among_append (list_at old at) (n ∷ []) i mine)
        | inr other ↦ inl (subst (λ (xs : List ℕ). Among xs i) (list_apart old at a now other) m)
      ];
    }

-- a list that has the node already
pub noted_before : (lists : List (Vec ℕ Global)) (at n : ℕ) → Among (list_at lists at) n → IsNoted lists lists (at ∷ []) n
noted_before lists at n here = record {
  long = refl;
  keeps = λ a i m. m;
  adds = λ a m. ⊎_elim (λ (q : at ≡ a). subst (λ (v : ℕ). Among (list_at lists v) n) q here) (λ z. absurd z) m;
  only = λ a i m. inl m;
}

pub got_among : (xs : List ℕ) (i d n : ℕ) → i < length xs → get_or xs i d ≡ n → Among xs n
got_among [] i d n lt is = absurd (omega (arith, lt))
got_among (x ∷ xs) zero d n lt is = inl is
got_among (x ∷ xs) (suc i) d n lt is = inr (got_among xs i d n (omega (arith, lt)) is)

-- ---- a list that is emptied

pub taken_at : (old : List (Vec ℕ Global)) (at : ℕ) (now : Vec ℕ Global) → at < length old → now.items ≡ [] → IsTaken old (set old at now) at
taken_at old at now lt none = record {
  long = length-set old at now;
  gone = list_set old at now lt ∙ none;
  left = λ a other. list_apart old at a now other;
}

-- how many nodes stand in lists
abbrev pub counted : List (Vec ℕ Global) → ℕ
counted [] = 0
counted (v ∷ vs) = length v.items + counted vs

counted_same : (vs us : List (Vec ℕ Global)) → length us ≡ length vs → ((a : ℕ) → list_at us a ≡ list_at vs a) → counted us ≡ counted vs
counted_same [] [] long same = refl
counted_same [] (u ∷ us) long same = absurd (omega (arith, long))
counted_same (v ∷ vs) [] long same = absurd (omega (arith, long))
counted_same (v ∷ vs) (u ∷ us) long same =
    let head : length u.items ≡ length v.items = ap (λ (xs : List ℕ). length xs) (same 0) in
    let tail = counted_same vs us (omega (arith, long)) (λ a. same (suc a)) in
    omega (arith, head, tail)

pub taken_counted : (vs us : List (Vec ℕ Global)) (at : ℕ) → at < length vs → IsTaken vs us at → counted us + length (list_at vs at) ≡ counted vs
taken_counted [] us at lt h = absurd (omega (arith, lt))
taken_counted (v ∷ vs) [] at lt h = let long = h.long in absurd (omega (arith, long))
taken_counted (v ∷ vs) (u ∷ us) zero lt h =
    let none : length u.items ≡ 0 = ap (λ (xs : List ℕ). length xs) h.gone in
    let long = h.long in
    let tail = counted_same vs us (omega (arith, long)) (λ a. h.left (suc a) (λ q. absurd (omega (arith, q)))) in
    omega (arith, none, tail)
taken_counted (v ∷ vs) (u ∷ us) (suc at) lt h =
    let head : length u.items ≡ length v.items = ap (λ (xs : List ℕ). length xs) (h.left 0 (λ q. absurd (omega (arith, q)))) in
    let long = h.long in
    let tail = taken_counted vs us at (omega (arith, lt)) (record { long = omega (arith, long); gone = h.gone; left = λ a other. h.left (suc a) (λ q. other (omega (arith, q))) }) in
    omega (arith, head, tail)
