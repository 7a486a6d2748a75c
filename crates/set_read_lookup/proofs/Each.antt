-- Loops that turn the elements of a list one after another.
use Rattle.std.proofs.Common.{ℕ, ◌+◌, ◌<◌, ◌≤◌, ◌≡◌, List, [], ◌∷◌, ◌++◌, Option, Some, None, length, get_or, drop, refl, sym, ap, ◌∙◌, append_assoc}
use Rattle.std.proofs.lemmas.List.{append-nil, at_drop_more, at_drop_all}
use Rattle.std.specs.Option.{option_map}
use Rattle.set_read_lookup.specs.Meaning.{joined, each}

-- elements in front of a list, where there is one
abbrev pub front : {B : Type 0} → List B → Option (List B) → Option (List B)
front xs o = option_map (λ ys. xs ++ ys) o

pub front_joined : {B : Type 0} (xs : List B) (y : B) (o : Option (List B)) → front xs (joined (Some y) o) ≡ front (xs ++ y ∷ []) o
front_joined xs y None = refl
front_joined xs y (Some ys) = ap Some (sym (append_assoc xs (y ∷ []) ys))

-- one more element of such a loop, one that becomes nothing, and the end
module _ {A B : Type 0} (f : A → Option B) (xs : List A) (i : ℕ) (ys : List B) where
  next_is : (x : A) → i < length xs → x ≡ get_or xs i x → each f (drop i xs) ≡ joined (f x) (each f (drop (i + 1) xs))
  next_is x lt is = at_drop_more (each f) xs i x lt ∙ ap (λ z. joined (f z) (each f (drop (i + 1) xs))) (sym is)

  pub each_more : (x : A) (y : B) (zs : List B) → i < length xs → x ≡ get_or xs i x → f x ≡ Some y → zs ≡ ys ++ y ∷ []
      → front ys (each f (drop i xs)) ≡ each f xs → front zs (each f (drop (i + 1) xs)) ≡ each f xs
  each_more x y zs lt is e more h =
      let rest = each f (drop (i + 1) xs) in
      ap (λ z. front z rest) more ∙ (sym (front_joined ys y rest) ∙ (ap (front ys) (sym (next_is x lt is ∙ ap (λ o. joined o rest) e)) ∙ h))

  pub each_stops : (x : A) → i < length xs → x ≡ get_or xs i x → f x ≡ None → front ys (each f (drop i xs)) ≡ each f xs → None ≡ each f xs
  each_stops x lt is e h = ap (front ys) (sym (next_is x lt is ∙ ap (λ o. joined o (each f (drop (i + 1) xs))) e)) ∙ h

  pub each_done : length xs ≤ i → front ys (each f (drop i xs)) ≡ each f xs → Some ys ≡ each f xs
  each_done end h = ap Some (sym (append-nil ys)) ∙ (ap (front ys) (sym (at_drop_all (each f) xs i end)) ∙ h)
