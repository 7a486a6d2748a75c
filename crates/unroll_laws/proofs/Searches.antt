-- Searches by name: what is found stands in the list, and what stands in a list of different names is found.
use Rattle.std.proofs.Common.{◌≡◌, ◌≢◌, ◌<◌, ℕ, suc, true, false, List, [], ◌∷◌, Option, Some, None, length, map, get_or, refl, sym, ap, ◌∙◌, inl, inr, ⊎_elim, arith}
use Rattle.std.specs.List.{AllPairs, find}
use Rattle.std.specs.Str.{bytes_eq}
use Rattle.std.proofs.lemmas.Bool.{cases_Bool}
use Rattle.std.proofs.lemmas.Slice.Eq.{bytes_eq-Decides}
use Rattle.vlog_tree_runs.specs.Places.{Name, Among}

other_text : (x y : Name) → x ≢ y → bytes_eq x y ≡ false
other_text x y h = elim (cases_Bool (bytes_eq x y)) [ inl same ↦ absurd (h ((bytes_eq-Decides x y).0 same)) | inr other ↦ other ]

pub same_text : (x y : Name) → x ≡ y → bytes_eq x y ≡ true
same_text x y h = (bytes_eq-Decides x y).1 h

pub different_text : (x y : Name) → x ≢ y → bytes_eq x y ≡ false
different_text x y h = other_text x y h

module _ {A : Type 0} (name_of : A → Name) where
  abbrev pub at_name : List A → Name → Option A
  at_name xs x = find (λ a. bytes_eq (name_of a) x) xs

  later : (y x : A) (ys : List A) (n : Name) → Among ys x × (name_of x ≡ n) → Among (y ∷ ys) x × (name_of x ≡ n)
  later y x ys n h = (inr h.0, h.1)

  pub found : (xs : List A) (n : Name) (x : A) → at_name xs n ≡ Some x → Among xs x × (name_of x ≡ n)
  found [] n x h = absurd cc
  found (y ∷ ys) n x h = elim (cases_Bool (bytes_eq (name_of y) n)) [
    | inl hit ↦ let some : Some y ≡ Some x = rw hit at h in let is : y ≡ x = cc in (inl is, ap name_of (sym is) ∙ (bytes_eq-Decides (name_of y) n).0 hit)
    | inr miss ↦ let rest : at_name ys n ≡ Some x = rw miss at h in later y x ys n (found ys n x rest)
  ]

  pub none_found : (xs : List A) (n : Name) → ((x : A) → Among xs x → name_of x ≢ n) → at_name xs n ≡ None
  none_found [] n h = refl
  none_found (y ∷ ys) n h =
      let other = other_text (name_of y) n (h y (inl refl)) in
      let rest = none_found ys n (λ x m. h x (inr m)) in
      rw other rest

  pub apart : (xs : List A) (n : Name) → ((j : ℕ) → j < length (map name_of xs) → n ≢ get_or (map name_of xs) j []) → (x : A) → Among xs x → n ≢ name_of x
  apart [] n h x m = absurd m
  apart (y ∷ ys) n h x m =
      ⊎_elim (λ (is : y ≡ x). λ (same : n ≡ name_of x). h 0 (omega arith) (same ∙ ap name_of (sym is))) (λ (in' : Among ys x). apart ys n (λ j lt. h (suc j) (omega (arith, lt))) x in') m

  pub finds : (xs : List A) → AllPairs (λ x y. x ≢ y) (map name_of xs) → (x : A) → Among xs x → at_name xs (name_of x) ≡ Some x
  finds [] h x m = absurd m
  finds (y ∷ ys) h x m =
      ⊎_elim (λ (is : y ≡ x). (let hit = same_text (name_of y) (name_of x) (ap name_of is) in rw hit (ap (λ u. Some u) is)))
      (λ (in' : Among ys x).
      let differ = apart ys (name_of y) (λ j lt. h 0 (suc j) [] (omega arith) (omega (arith, lt))) x in' in
      let miss = other_text (name_of y) (name_of x) differ in
      rw miss (finds ys (λ i j d l k. h (suc i) (suc j) d (omega (arith, l)) (omega (arith, k))) x in')) m
