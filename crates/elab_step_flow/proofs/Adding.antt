-- Places that are added to a list.
use Rattle.std.proofs.Common.{◌≡◌, ℕ, ◌+◌, ◌<◌, ◌⊎◌, ◌↔◌, inl, inr, List, [], ◌∷◌, ◌++◌, take, drop, length, get_or, nat_cmp, Equal, sym, subst}
use Rattle.std.specs.List.{HoldsAt, insert}
use Rattle.std.proofs.lemmas.List.{take-append-drop, take_more}
use Rattle.std.proofs.lemmas.Map.Lookups.{exact_unsigned}
use Rattle.vlog_tree_runs.specs.Places.{Among}
use Rattle.elab_flat_laws.proofs.Lists.{among_append, append_left, append_right}
use Rattle.elab_step_flow.proofs.Rising.{contains_among}

-- one that is found stands there already
pub found_among : (xs : List ℕ) (x i : ℕ) → i < length xs → HoldsAt (λ y. nat_cmp y x ≡ Equal) xs i → (j : ℕ) → Among xs j ↔ (Among xs j ⊎ (x ≡ j))
found_among xs x i lt h j =
    let e : get_or xs i x ≡ x = exact_unsigned (get_or xs i x) x (h x) in
    (λ m. inl m, λ m. elim m [ inl f ↦ f | inr f ↦ subst (λ z. Among xs z) f (contains_among xs x (i, lt, e)) ])

pub inserted_among : (xs : List ℕ) (x i j : ℕ) → Among (insert xs i x) j ↔ (Among xs j ⊎ (x ≡ j))
inserted_among xs x i j = (there, back)
  where
    whole : take i xs ++ drop i xs ≡ xs
    whole = take-append-drop i xs

    there : Among (insert xs i x) j → Among xs j ⊎ (x ≡ j)
    there h = elim (among_append (take i xs) (x ∷ drop i xs) j h) [
      | inl f ↦ inl (subst (λ z. Among z j) whole (append_left (take i xs) (drop i xs) j f))
      | inr f ↦ elim f [ inl e ↦ inr e | inr g ↦ inl (subst (λ z. Among z j) whole (append_right (take i xs) (drop i xs) j g)) ]
    ]

    back : Among xs j ⊎ (x ≡ j) → Among (insert xs i x) j
    back (inr e) = append_right (take i xs) (x ∷ drop i xs) j (inl e)
    back (inl h) = elim (among_append (take i xs) (drop i xs) j (subst (λ z. Among z j) (sym whole) h)) [
      | inl f ↦ append_left (take i xs) (x ∷ drop i xs) j f
      | inr f ↦ append_right (take i xs) (x ∷ drop i xs) j (inr f)
    ]

-- places up to one, and that one
pub added_next : (old mid new places : List ℕ) (k : ℕ) → k < length places → ((i : ℕ) → Among mid i ↔ (Among old i ⊎ Among (take k places) i)) → ((i : ℕ) → Among new i ↔ (Among mid i ⊎ (get_or places k 0 ≡ i))) → (i : ℕ) → Among new i ↔ (Among old i ⊎ Among (take (k + 1) places) i)
added_next old mid new places k lt h g i = (there, back)
  where
    next : take (k + 1) places ≡ take k places ++ get_or places k 0 ∷ []
    next = take_more places k 0 lt

    there : Among new i → Among old i ⊎ Among (take (k + 1) places) i
    there m = elim ((g i).0 m) [
      | inl f ↦ elim ((h i).0 f) [ inl a ↦ inl a | inr a ↦ inr (subst (λ z. Among z i) (sym next) (append_left (take k places) (get_or places k 0 ∷ []) i a)) ]
      | inr e ↦ inr (subst (λ z. Among z i) (sym next) (append_right (take k places) (get_or places k 0 ∷ []) i (inl e)))
    ]

    back : Among old i ⊎ Among (take (k + 1) places) i → Among new i
    back (inl a) = (g i).1 (inl ((h i).1 (inl a)))
    back (inr a) = elim (among_append (take k places) (get_or places k 0 ∷ []) i (subst (λ z. Among z i) next a)) [
      | inl f ↦ (g i).1 (inl ((h i).1 (inr f)))
      | inr f ↦ (g i).1 (inr (elim f [ inl e ↦ e | inr z ↦ absurd z ]))
    ]
