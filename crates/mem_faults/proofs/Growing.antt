-- Lists that grow at their ends.
use Rattle.std.proofs.Common.{◌≡◌, ℕ, ◌+◌, ◌<◌, ◌≤◌, suc, List, [], ◌∷◌, ◌++◌, map, length, drop, get_or, drop-cons, drop_of_length-le, append_assoc, add-one, Result, Ok, Err, sym, ap, ◌∙◌}
use Rattle.std.specs.Prelude.{OnOk}
use Rattle.std.proofs.lemmas.List.{map-append, append-nil}

pub ok_then : {T E : Type 0} (r : Result T E) (P Q : Type 0) → OnOk r P → (P → Q) → OnOk r Q
ok_then (Ok x) P Q h f = f h
ok_then (Err e) P Q h f = tt

-- the rest of a list from an element on
pub cut : {X : Type 0} (xs : List X) (i : ℕ) (x : X) → i < length xs → x ≡ get_or xs i x → drop i xs ≡ x ∷ drop (i + 1) xs
cut xs i x lt is = drop-cons xs i x lt ∙ ((λ q. sym is q ∷ drop (suc i) xs) ∙ ap (λ k. x ∷ drop k xs) (sym (add-one i)))

-- one more, and then others
pub next : {X B : Type 0} (g : List X → List B) (xs : List X) (i : ℕ) (x : X) (old new whole ys : List B) → i < length xs → x ≡ get_or xs i x →
    ((zs : List X) → g (x ∷ zs) ≡ ys ++ g zs) → new ≡ old ++ ys → old ++ g (drop i xs) ≡ whole → new ++ g (drop (i + 1) xs) ≡ whole
next g xs i x old new whole ys lt is more e h =
    ap (λ z. z ++ g (drop (i + 1) xs)) e ∙ (append_assoc old ys (g (drop (i + 1) xs))
    ∙ (ap (λ z. old ++ z) (sym (more (drop (i + 1) xs)) ∙ ap g (sym (cut xs i x lt is))) ∙ h))

-- nothing is left to add
pub ended : {X B : Type 0} (g : List X → List B) (xs : List X) (i : ℕ) (all whole : List B) → g [] ≡ [] → length xs ≤ i → all ++ g (drop i xs) ≡ whole → all ≡ whole
ended g xs i all whole none le h = sym (append-nil all) ∙ (ap (λ z. all ++ z) (sym none ∙ ap g (sym (drop_of_length-le xs {i = i} le))) ∙ h)

module _ {A B : Type 0} (f : A → B) where
  -- one more at the end, and then others
  pub added : (old mid new : List A) (x : A) (ys zs : List B) → mid ≡ old ++ x ∷ [] → map f new ≡ map f mid ++ ys → f x ∷ ys ≡ zs → map f new ≡ map f old ++ zs
  added old mid new x ys zs e h g =
      h ∙ (ap (λ m. map f m ++ ys) e ∙ (ap (λ z. z ++ ys) (map-append f old (x ∷ [])) ∙ (append_assoc (map f old) (f x ∷ []) ys ∙ ap (λ z. map f old ++ z) g)))

  -- some at the end, and then others
  pub twice : (old mid new : List A) (xs ys zs : List B) → map f mid ≡ map f old ++ xs → map f new ≡ map f mid ++ ys → xs ++ ys ≡ zs → map f new ≡ map f old ++ zs
  twice old mid new xs ys zs e h g = h ∙ (ap (λ z. z ++ ys) e ∙ (append_assoc (map f old) xs ys ∙ ap (λ z. map f old ++ z) g))

  pub same_end : (old new : List A) (ys zs : List B) → map f new ≡ map f old ++ ys → ys ≡ zs → map f new ≡ map f old ++ zs
  same_end old new ys zs h g = h ∙ ap (λ z. map f old ++ z) g
