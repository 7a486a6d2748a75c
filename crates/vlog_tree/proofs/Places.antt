-- Places of entries, and the fingerprints by which they are found.
use Rattle.std.proofs.Common.{◌≡◌, ℕ, zero, suc, ◌+◌, ◌<◌, add-one, Bool, true, false, ◌&&◌, nat_eq, List, [], ◌∷◌, ◌++◌, length, drop, get_or, Option, Some, None, if◌then◌else◌, eq-eqb, refl, sym, ap, ◌∙◌, arith, inl, inr, drop-cons}
use Rattle.std.specs.List.{position_from}
use Rattle.std.specs.Option.{option_or}
use Rattle.std.specs.Str.{bytes_eq}
use Rattle.std.proofs.lemmas.Bool.{cases_Bool, eqb-true}
use Rattle.std.proofs.lemmas.Slice.Eq.{bytes_eq-Decides}
use Rattle.vlog_tree.specs.declared.valuation.Entry.{Entry}
use Rattle.vlog_tree.specs.Valuation.{AllFit, EntryFits, entry_at, is_named, place_at, written}
use Rattle.vlog_tree.specs.Fingerprints.{fingerprint, has_print, print_from, IsIndex}

module _ {X : Type 0} (t : X → Bool) where
  -- the first that passes after one more
  pub position_push : (i : ℕ) (xs : List X) (x : X) → position_from t i (xs ++ x ∷ []) ≡ option_or (position_from t i xs) (if t x then Some (i + length xs) else None)
  position_push i [] x =
      let e : i ≡ i + 0 = omega arith in
      ap (λ k. if t x then Some k else None) e
  position_push i (y ∷ ys) x =
      let e : i + 1 + length ys ≡ i + suc (length ys) = omega arith in
      elim (cases_Bool (t y)) [
        | inl y ↦ rw y refl
        | inr n ↦ rw n (position_push (i + 1) ys x ∙ ap (λ k. option_or (position_from t (i + 1) ys) (if t x then Some k else None)) e)
      ]

  -- the rest of a list from a place on
  pub first_here : (i : ℕ) (xs : List X) (x : X) → i < length xs → x ≡ get_or xs i x → t x ≡ true → position_from t i (drop i xs) ≡ Some i
  first_here i xs x lt is y = rw (drop-cons xs i x lt, ← is, y) refl

  pub first_later : (i : ℕ) (xs : List X) (x : X) → i < length xs → x ≡ get_or xs i x → t x ≡ false → position_from t i (drop i xs) ≡ position_from t (i + 1) (drop (i + 1) xs)
  first_later i xs x lt is n = rw (drop-cons xs i x lt, ← is, n, add-one) refl

-- what passes t passes h, so that the first for h isn't after the first for t
module _ {X : Type 0} (t h : X → Bool) (passes : (x : X) → t x ≡ true → h x ≡ true) where
  fails : (x : X) → h x ≡ false → t x ≡ false
  fails x n = elim (cases_Bool (t x)) [
    | inl y ↦ (let e : true ≡ false = sym (passes x y) ∙ n in cc)
    | inr m ↦ m
  ]

  pub skipped : (i p : ℕ) (xs : List X) → position_from h i xs ≡ Some p → (k : ℕ) × (p ≡ i + k) × (position_from t i xs ≡ position_from t p (drop k xs))
  skipped i p [] e = cc
  skipped i p (x ∷ xs) e = elim (cases_Bool (h x)) [
    | inl y ↦ (let is : Some i ≡ Some p = rw y at e in let same : i ≡ p = cc in (0, omega arith, ap (λ n. position_from t n (x ∷ xs)) same))
    | inr n ↦ (let r = skipped (i + 1) p xs (rw n at e) in (suc r.0, omega (arith, r.1), rw (fails x n) r.2))
  ]

  pub nowhere : (i : ℕ) (xs : List X) → position_from h i xs ≡ None → position_from t i xs ≡ None
  nowhere i [] e = refl
  nowhere i (x ∷ xs) e = elim (cases_Bool (h x)) [
    | inl y ↦ (let is : Some i ≡ None = rw y at e in cc)
    | inr n ↦ rw (fails x n) (nowhere (i + 1) xs (rw n at e))
  ]

-- ---- entries

both : (a b : Bool) → (a && b) ≡ true → (a ≡ true) × (b ≡ true)
both true b e = (refl, e)
both false b e = cc

-- a name at an offset has its fingerprint
named_print : (x : List ℕ) (j : ℕ) (e : Entry) → is_named x j e ≡ true → has_print (fingerprint x j) e ≡ true
named_print x j e h =
    let p = both (nat_eq e.offset j) (bytes_eq e.name x) h in
    let o : e.offset ≡ j = eqb-true e.offset j p.0 in
    let n : e.name ≡ x = (bytes_eq-Decides e.name x).0 p.1 in
    eq-eqb (fingerprint e.name e.offset) (fingerprint x j) (ap (λ y. fingerprint y e.offset) n ∙ ap (fingerprint x) o)

module _ (es : List Entry) (x : List ℕ) (j : ℕ) (first : ℕ → Option ℕ) (index : IsIndex es first) where
  pub from_first : (p : ℕ) → first (fingerprint x j) ≡ Some p → position_from (is_named x j) p (drop p es) ≡ position_from (is_named x j) 0 es
  from_first p e =
      let r = skipped (is_named x j) (has_print (fingerprint x j)) (named_print x j) 0 p es (sym (index (fingerprint x j)) ∙ e) in
      let k : p ≡ r.0 = omega (arith, r.1) in
      ap (λ n. position_from (is_named x j) p (drop n es)) k ∙ sym r.2

  pub from_none : first (fingerprint x j) ≡ None → position_from (is_named x j) 0 es ≡ None
  from_none e = nowhere (is_named x j) (has_print (fingerprint x j)) (named_print x j) 0 es (sym (index (fingerprint x j)) ∙ e)

pub index_push : (es now : List Entry) (e : Entry) (first next : ℕ → Option ℕ) (print place : ℕ) → now ≡ es ++ e ∷ [] → print ≡ fingerprint e.name e.offset → place ≡ length es
    → ((p : ℕ) → next p ≡ option_or (first p) (if nat_eq print p then Some place else None)) → IsIndex es first → IsIndex now next
index_push es now e first next print place is same last up index = λ p.
    let count : place ≡ 0 + length es = omega arith in
    up p ∙ (ap (λ o. option_or o (if nat_eq print p then Some place else None)) (index p)
    ∙ (ap (λ n. option_or (print_from 0 es p) (if nat_eq n p then Some place else None)) same
    ∙ (ap (λ n. option_or (print_from 0 es p) (if has_print p e then Some n else None)) count
    ∙ (sym (position_push (has_print p) 0 es e) ∙ ap (λ ns. print_from 0 ns p) (sym is)))))

prints_written : (p i : ℕ) (es : List Entry) (xs : List ℕ) → print_from i (written es xs) p ≡ print_from i es p
prints_written p i [] xs = refl
prints_written p i (e ∷ es) [] = refl
prints_written p i (e ∷ es) (x ∷ xs) = ap (λ o. if has_print p e then Some i else o) (prints_written p (i + 1) es xs)

pub index_written : (es now : List Entry) (xs : List ℕ) (first : ℕ → Option ℕ) → now ≡ written es xs → IsIndex es first → IsIndex now first
index_written es now xs first is index = λ p. index p ∙ (sym (prints_written p 0 es xs) ∙ ap (λ ns. print_from 0 ns p) (sym is))

-- the entry at the place of a name
entry_found : (x : List ℕ) (j i k : ℕ) (es : List Entry) → position_from (is_named x j) i es ≡ Some k → (m : ℕ) × (k ≡ i + m) × (m < length es) × ((d : Entry) → entry_at es x j ≡ Some (get_or es m d))
entry_found x j i k [] e = cc
entry_found x j i k (y ∷ ys) e = elim (cases_Bool (is_named x j y)) [
  | inl t ↦ (let is : Some i ≡ Some k = rw t at e in let same : i ≡ k = cc in (0, omega arith, omega arith, λ d. rw t refl))
  | inr n ↦ (let r = entry_found x j (i + 1) k ys (rw n at e) in (suc r.0, omega (arith, r.1), omega (arith, r.2), λ d. rw n (r.3 d)))
]

entry_missing : (x : List ℕ) (j i : ℕ) (es : List Entry) → position_from (is_named x j) i es ≡ None → entry_at es x j ≡ None
entry_missing x j i [] e = refl
entry_missing x j i (y ∷ ys) e = elim (cases_Bool (is_named x j y)) [
  | inl t ↦ (let is : Some i ≡ None = rw t at e in cc)
  | inr n ↦ rw n (entry_missing x j (i + 1) ys (rw n at e))
]

pub at_place : (es : List Entry) (x : List ℕ) (j k : ℕ) → place_at es x j ≡ Some k → (k < length es) × ((d : Entry) → entry_at es x j ≡ Some (get_or es k d))
at_place es x j k e =
    let r = entry_found x j 0 k es e in
    let same : r.0 ≡ k = omega (arith, r.1) in
    (omega (arith, r.1, r.2), λ d. r.3 d ∙ ap (λ n. Some (get_or es n d)) same)

pub at_none : (es : List Entry) (x : List ℕ) (j : ℕ) → place_at es x j ≡ None → entry_at es x j ≡ None
at_none es x j e = entry_missing x j 0 es e

pub fits_at : (es : List Entry) (i : ℕ) (d : Entry) → AllFit es → i < length es → EntryFits (get_or es i d)
fits_at [] i d f lt = absurd (omega arith)
fits_at (e ∷ es) zero d f lt = f.0
fits_at (e ∷ es) (suc i) d f lt = fits_at es i d f.1 (omega arith)
