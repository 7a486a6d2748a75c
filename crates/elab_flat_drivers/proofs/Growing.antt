-- Lists that grow at their ends.
use Rattle.std.proofs.Common.{◌≡◌, ℕ, ◌≤◌, List, [], ◌∷◌, ◌++◌, map, length, drop, drop_of_length-le, append_assoc, Result, Ok, Err, sym, ap, ◌∙◌}
use Rattle.std.specs.Prelude.{OnOk}
use Rattle.std.proofs.lemmas.List.{map-append, append-nil}

pub ok_then : {T E : Type 0} (r : Result T E) (P Q : Type 0) → OnOk r P → (P → Q) → OnOk r Q
ok_then (Ok x) P Q h f = f h
ok_then (Err e) P Q h f = tt

module _ {A B : Type 0} (f : A → B) where
  -- one more at the end, and then others
  pub added : (old mid new : List A) (x : A) (ys zs : List B) → mid ≡ old ++ x ∷ [] → map f new ≡ map f mid ++ ys → f x ∷ ys ≡ zs → map f new ≡ map f old ++ zs
  added old mid new x ys zs e h g =
      h ∙ (ap (λ m. map f m ++ ys) e ∙ (ap (λ z. z ++ ys) (map-append f old (x ∷ [])) ∙ (append_assoc (map f old) (f x ∷ []) ys ∙ ap (λ z. map f old ++ z) g)))

  -- some at the end, and then others
  pub twice : (old mid new : List A) (xs ys zs : List B) → map f mid ≡ map f old ++ xs → map f new ≡ map f mid ++ ys → xs ++ ys ≡ zs → map f new ≡ map f old ++ zs
  twice old mid new xs ys zs e h g = h ∙ (ap (λ z. z ++ ys) e ∙ (append_assoc (map f old) xs ys ∙ ap (λ z. map f old ++ z) g))

  pub same_end : (old new : List A) (ys zs : List B) → map f new ≡ map f old ++ ys → ys ≡ zs → map f new ≡ map f old ++ zs
  same_end old new ys zs h g = h ∙ ap (λ z. map f old ++ z) g

-- nothing is left to add
pub ended : {X B : Type 0} (g : List X → List B) (xs : List X) (i : ℕ) (all base whole : List B) → g [] ≡ [] → length xs ≤ i → all ++ g (drop i xs) ≡ base ++ whole → all ≡ base ++ whole
ended g xs i all base whole none le h = sym (append-nil all) ∙ (ap (λ z. all ++ z) (sym none ∙ ap g (sym (drop_of_length-le xs {i = i} le))) ∙ h)
