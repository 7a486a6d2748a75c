-- Searches through lists, one after another.
use Rattle.std.proofs.Common.{◌≡◌, ℕ, suc, ◌+◌, ◌<◌, List, ◌∷◌, ◌++◌, length, drop, get_or, drop-cons, add-one, Option, Some, None, Bool, Bor, refl, sym, ap, ◌∙◌}
use Rattle.std.specs.List.{find, flat_map}
use Rattle.std.specs.Option.{option_copied, option_or}
use Rattle.std.proofs.lemmas.List.Folds.{find-append}

module _ {A B : Type 0} (h : A → List B) (p : B → Bool) where
  cut : (xs : List A) (i : ℕ) (x : A) → i < length xs → x ≡ get_or xs i x → drop i xs ≡ x ∷ drop (i + 1) xs
  cut xs i x lt is = rw add-one (drop-cons xs i x lt ∙ ap (λ z. z ∷ drop (suc i) xs) (sym is))

  pub passes_at : (xs : List A) (i : ℕ) (x : A) → i < length xs → x ≡ get_or xs i x → (R : Option B) (a : Option (Bor B))
      → find p (flat_map h (drop i xs)) ≡ R → option_copied a ≡ find p (h x) → ((b : Bor B) → a ≡ Some b → ⊥) → find p (flat_map h (drop (i + 1) xs)) ≡ R
  passes_at xs i x lt is R None inv g n =
      (ap (λ z. option_or z (find p (flat_map h (drop (i + 1) xs)))) g ∙ sym (find-append p (h x) (flat_map h (drop (i + 1) xs))))
      ∙ (ap (λ z. find p (flat_map h z)) (sym (cut xs i x lt is)) ∙ inv)
  passes_at xs i x lt is R (Some b) inv g n = absurd (n b refl)

  pub stops_at : (xs : List A) (i : ℕ) (x : A) → i < length xs → x ≡ get_or xs i x → (R : Option B) (b : B)
      → find p (flat_map h (drop i xs)) ≡ R → Some b ≡ find p (h x) → Some b ≡ R
  stops_at xs i x lt is R b inv g =
      (ap (λ z. option_or z (find p (flat_map h (drop (i + 1) xs)))) g ∙ sym (find-append p (h x) (flat_map h (drop (i + 1) xs))))
      ∙ (ap (λ z. find p (flat_map h z)) (sym (cut xs i x lt is)) ∙ inv)

-- parts of a search, side by side
module _ {B : Type 0} (p : B → Bool) where
  pub or_finds : (xs ys : List B) (a b o : Option (Bor B)) → option_copied a ≡ find p xs → option_copied b ≡ find p ys → o ≡ option_or a b → option_copied o ≡ find p (xs ++ ys)
  or_finds xs ys None b o f g h = ap option_copied h ∙ (g ∙ (ap (λ z. option_or z (find p ys)) f ∙ sym (find-append p xs ys)))
  or_finds xs ys (Some x) b o f g h = ap option_copied h ∙ (ap (λ z. option_or z (find p ys)) f ∙ sym (find-append p xs ys))
