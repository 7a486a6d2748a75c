-- Elements of lists, one by one.
use Rattle.std.proofs.Common.{◌≡◌, ◌≢◌, ℕ, suc, ◌+◌, ◌≤◌, inl, inr, List, [], ◌∷◌, ◌++◌, length, Option, Some, Bool, true, false, refl, sym, ap, subst, ◌∙◌, arith}
use Rattle.std.specs.List.{All, AllPairs, Contains, list_any}
use Rattle.std.specs.Str.{bytes_eq}
use Rattle.std.proofs.lemmas.Bool.{or_parts}
use Rattle.std.proofs.lemmas.Slice.Eq.{bytes_eq-Decides}
use Rattle.std.proofs.lemmas.List.Elements.{All-cons, All-nil, All-contains, Contains-get_or, Contains-append_right}
use Rattle.std.proofs.lemmas.List.Kept.{AllPairs-cons}
use Rattle.set_read_lookup.specs.Meaning.{each}
use Rattle.set_read_lookup.specs.Faults.{Has, HasTwice}
use Rattle.set_read_lookup.proofs.Searches.{by_test}
use Rattle.set_read_lookup.proofs.Zeros.{split}

module _ {A : Type 0} where
  pub has_contains : (xs : List A) (x : A) → Has xs x → Contains xs x
  has_contains [] x h = absurd h
  has_contains (y ∷ ys) x (inl e) = subst (Contains (y ∷ ys)) e (Contains-get_or (y ∷ ys) 0 y (omega arith))
  has_contains (y ∷ ys) x (inr h) = Contains-append_right (y ∷ []) ys x (has_contains ys x h)

  pub all_of : (P : A → Type 0) (xs : List A) → ((x : A) → Has xs x → P x) → All P xs
  all_of P [] f = All-nil P
  all_of P (x ∷ xs) f = All-cons P x xs (f x (inl refl)) (all_of P xs (λ y h. f y (inr h)))

  pub contains_has : (xs : List A) (x : A) → Contains xs x → Has xs x
  contains_has xs x h = All-contains (Has xs) xs x (all_of (Has xs) xs (λ y k. k)) h

  pub none_any : (p : A → Bool) (xs : List A) (x : A) → list_any p xs ≡ false → Has xs x → p x ≡ false
  none_any p [] x n h = absurd h
  none_any p (y ∷ ys) x n (inl e) = subst (λ z. p z ≡ false) e (or_parts (p y) (list_any p ys) n).0
  none_any p (y ∷ ys) x n (inr h) = none_any p ys x (or_parts (p y) (list_any p ys) n).1 h

  pub distinct : (xs : List A) → ((x : A) → HasTwice xs x → ⊥) → AllPairs (λ x y. x ≢ y) xs
  distinct [] f = λ i j d lt in'. absurd (omega (arith, lt, in'))
  distinct (x ∷ xs) f =
      AllPairs-cons (λ x y. x ≢ y) x xs (all_of (λ y. x ≢ y) xs (λ y h e. f x (inl (refl, subst (Has xs) (sym e) h)))) (distinct xs (λ y h. f y (inr h)))

-- what each element becomes
module _ {A B : Type 0} (f : A → Option B) where
  here_or_there : (x : A) (xs : List A) (y z : B) (rest : List B) → f x ≡ Some z → (Has rest y → (w : A) × Has xs w × (f w ≡ Some y)) → Has (z ∷ rest) y → (w : A) × Has (x ∷ xs) w × (f w ≡ Some y)
  here_or_there x xs y z rest p more (inl e) = (x, inl refl, p ∙ ap Some e)
  here_or_there x xs y z rest p more (inr r) = let w = more r in (w.0, inr w.1, w.2)

  pub each_has : (xs : List A) (ys : List B) → each f xs ≡ Some ys → (y : B) → Has ys y → (x : A) × Has xs x × (f x ≡ Some y)
  each_has [] ys h y k = let g : [] ≡ ys = cc in absurd (subst (λ zs. Has zs y) (sym g) k)
  each_has (x ∷ xs) ys h y k =
      let s = split (f x) (each f xs) ys h in
      here_or_there x xs y s.0 s.1 s.2 (λ r. each_has xs s.1 s.3 y r) (subst (λ zs. Has zs y) s.4 k)

  pub each_length : (xs : List A) (ys : List B) → each f xs ≡ Some ys → length ys ≡ length xs
  each_length [] ys h = let g : [] ≡ ys = cc in sym (ap length g)
  each_length (x ∷ xs) ys h =
      let s = split (f x) (each f xs) ys h in
      ap length s.4 ∙ ap suc (each_length xs s.1 s.3)

  -- elements that differ become elements that differ
  twice_here_or_there : ((a b : A) (y : B) → f a ≡ Some y → f b ≡ Some y → a ≡ b) → (x : A) (xs : List A) (y z : B) (rest : List B) → f x ≡ Some z → each f xs ≡ Some rest
      → (HasTwice rest y → (w : A) × HasTwice xs w) → HasTwice (z ∷ rest) y → (w : A) × HasTwice (x ∷ xs) w
  twice_here_or_there one x xs y z rest p q more (inl e) =
      let w = each_has xs rest q y e.1 in
      let same : x ≡ w.0 = one x w.0 y (p ∙ ap Some e.0) w.2 in
      (x, inl (refl, subst (Has xs) (sym same) w.1))
  twice_here_or_there one x xs y z rest p q more (inr r) = let w = more r in (w.0, inr w.1)

  pub each_twice : ((a b : A) (y : B) → f a ≡ Some y → f b ≡ Some y → a ≡ b) → (xs : List A) (ys : List B) → each f xs ≡ Some ys → (y : B) → HasTwice ys y → (x : A) × HasTwice xs x
  each_twice one [] ys h y k = let g : [] ≡ ys = cc in absurd (subst (λ zs. HasTwice zs y) (sym g) k)
  each_twice one (x ∷ xs) ys h y k =
      let s = split (f x) (each f xs) ys h in
      twice_here_or_there one x xs y s.0 s.1 s.2 s.3 (λ r. each_twice one xs s.1 s.3 y r) (subst (λ zs. HasTwice zs y) s.4 k)

-- ---- how often a name stands in a list

abbrev pub one_if : Bool → ℕ
one_if true = 1
one_if false = 0

abbrev pub times : List ℕ → List (List ℕ) → ℕ
times n [] = 0
times n (m ∷ ms) = one_if (bytes_eq m n) + times n ms

pub times_app : (n : List ℕ) (xs ys : List (List ℕ)) → times n (xs ++ ys) ≡ times n xs + times n ys
times_app n [] ys = omega arith
times_app n (x ∷ xs) ys = let g = times_app n xs ys in omega (arith, g)

has_times : (n : List ℕ) (xs : List (List ℕ)) → Has xs n → 1 ≤ times n xs
has_times n [] h = absurd h
has_times n (x ∷ xs) (inl e) = let t : bytes_eq x n ≡ true = (bytes_eq-Decides x n).1 e in rw t (omega arith)
has_times n (x ∷ xs) (inr h) = let g = has_times n xs h in omega (arith, g)

times_has : (n : List ℕ) (xs : List (List ℕ)) → 1 ≤ times n xs → Has xs n
times_has n [] h = absurd (omega (arith, h))
times_has n (x ∷ xs) h = by_test (bytes_eq x n)
    (λ (t : bytes_eq x n ≡ true). inl ((bytes_eq-Decides x n).0 t))
    (λ (t : bytes_eq x n ≡ false). let g : 1 ≤ 0 + times n xs = rw t at h in inr (times_has n xs (omega (arith, g))))

pub twice_times : (n : List ℕ) (xs : List (List ℕ)) → HasTwice xs n → 2 ≤ times n xs
twice_times n [] h = absurd h
twice_times n (x ∷ xs) (inl e) = let t : bytes_eq x n ≡ true = (bytes_eq-Decides x n).1 e.0 in let g = has_times n xs e.1 in rw t (omega (arith, g))
twice_times n (x ∷ xs) (inr h) = let g = twice_times n xs h in omega (arith, g)

pub times_twice : (n : List ℕ) (xs : List (List ℕ)) → 2 ≤ times n xs → HasTwice xs n
times_twice n [] h = absurd (omega (arith, h))
times_twice n (x ∷ xs) h = by_test (bytes_eq x n)
    (λ (t : bytes_eq x n ≡ true). let g : 2 ≤ 1 + times n xs = rw t at h in inl ((bytes_eq-Decides x n).0 t, times_has n xs (omega (arith, g))))
    (λ (t : bytes_eq x n ≡ false). let g : 2 ≤ 0 + times n xs = rw t at h in inr (times_twice n xs (omega (arith, g))))
