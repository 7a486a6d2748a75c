-- Searches through names, one after another.
use Rattle.std.proofs.Common.{◌≡◌, ℕ, ◌+◌, ◌<◌, ◌≤◌, drop_of_length-le, true, false, ◌⊎◌, inl, inr, List, [], ◌∷◌, map, length, drop, get_or, add-one, Bor, Option, Some, None, Result, Ok, Err, ⊎_elim, refl, sym, ap, subst, ◌∙◌}
use Rattle.std.specs.Prelude.{IfOk}
use Rattle.std.specs.Option.{option_copied}
use Rattle.vlog_tree_runs.specs.Places.{Name, Among}
use Rattle.vlog_tree_runs.specs.Contents.{is_among}
use Rattle.elab_flat_faults.specs.Declaring.{Repeats}
use Rattle.elab_flat_scopes.specs.Borrowed.{name_meant}
use Rattle.elab_flat_scopes.proofs.Finding.{cut}
use Rattle.elab_flat_drivers.proofs.Naming.{of_among, meant_at}
use Rattle.elab_flat_names.specs.Searching.{Finds, IsAbsent}

-- a name stands again: after those before it, or twice among those that follow
abbrev pub Again : List Name → List Name → Name → Type 0
Again before rest x = (Among rest x × Among before x) ⊎ Repeats rest x

-- the same names stand again behind a name that is new
pub one_on : (before rest : List Name) (n x : Name) → (Among before n → ⊥) → Again before (n ∷ rest) x → Again (n ∷ before) rest x
one_on before rest n x new (inl (inl e, b)) = absurd (new (subst (Among before) (sym e) b))
one_on before rest n x new (inl (inr a, b)) = inl (a, inr b)
one_on before rest n x new (inr (inl h)) = inl (h.1, inl h.0)
one_on before rest n x new (inr (inr h)) = inr h

pub one_back : (before rest : List Name) (n x : Name) → Again (n ∷ before) rest x → Again before (n ∷ rest) x
one_back before rest n x (inl (a, inl e)) = inr (inl (e, a))
one_back before rest n x (inl (a, inr b)) = inl (inr a, b)
one_back before rest n x (inr h) = inr (inr h)

-- nothing stands before the first one
pub from_start : (rest : List Name) (x : Name) → Again [] rest x → Repeats rest x
from_start rest x (inl h) = absurd h.1
from_start rest x (inr h) = h

pub not_among : (xs : List Name) (x : Name) → is_among xs x ≡ false → Among xs x → ⊥
not_among xs x e h = let z : true ≡ false = sym (of_among xs x h) ∙ e in cc

module _ (names : List (Bor Name)) (i : ℕ) (x : Bor Name) (lt : i < length names) (is : x ≡ get_or names i x) where
  pub rest_is : map name_meant (drop i names) ≡ x.now ∷ map name_meant (drop (i + 1) names)
  rest_is = ap (map name_meant) (cut names i x lt is) ∙ ap (λ k. x.now ∷ map name_meant (drop k names)) (sym (add-one i))

-- what stands at a place of a list, and what stands after it
module _ {A B : Type 0} (f : A → B) (xs : List A) (i : ℕ) (x : A) (lt : i < length xs) (is : x ≡ get_or xs i x) where
  after : map f (drop i xs) ≡ f x ∷ map f (drop (i + 1) xs)
  after = ap (map f) (cut xs i x lt is) ∙ ap (λ k. f x ∷ map f (drop k xs)) (sym (add-one i))

  pub among_here : Among (map f xs) (f x)
  among_here = meant_at f xs xs (map f xs) i x lt is refl refl

  pub among_past : (y : B) → Among (map f (drop i xs)) y → (f x ≡ y → ⊥) → Among (map f (drop (i + 1) xs)) y
  among_past y h other = ⊎_elim (λ e. absurd (other e)) (λ a. a) (subst (λ ys. Among ys y) after h)

-- a search finds what holds where the same holds
pub finds_same : (P Q : Name → Type 0) → ((x : Name) → P x → Q x) → ((x : Name) → Q x → P x) → (o : Option Name) → Finds P o → Finds Q o
finds_same P Q f g None h = λ x q. h x (g x q)
finds_same P Q f g (Some x) h = f x h

pub none_found : (P : Name → Type 0) (o : Option (Bor Name)) → Finds P (option_copied o) → ((x : Bor Name) → o ≡ Some x → ⊥) → (x : Name) → P x → ⊥
none_found P None found no' = found
none_found P (Some y) found no' = λ x p. no' y refl

pub if_ok : {T E : Type 0} (r : Result T E) (P Q : T → Type 0) → ((x : T) → P x → Q x) → IfOk r P → IfOk r Q
if_ok (Ok x) P Q f h = f x h
if_ok (Err e) P Q f h = tt

pub nothing_found : (P : Name → Type 0) (o : Option Name) → Finds P o → ((x : Name) → o ≡ Some x → ⊥) → (x : Name) → P x → ⊥
nothing_found P None found no' = found
nothing_found P (Some y) found no' = λ x p. no' y refl

pub one_found : (P : Name → Type 0) (o : Option (Bor Name)) (x : Bor Name) → Finds P (option_copied o) → o ≡ Some x → P x.now
one_found P o x found is = subst (λ z. Finds P (option_copied z)) is found

pub lacks_none : (xs xs' ys ys' : List Name) → xs ≡ xs' → ys ≡ ys' → (o : Option (Bor Name)) → Finds (IsAbsent xs ys) (option_copied o) → ((x : Bor Name) → o ≡ Some x → ⊥) → (x : Name) → IsAbsent xs' ys' x → ⊥
lacks_none xs xs' ys ys' e g o found no' x h = none_found (IsAbsent xs ys) o found no' x (subst (λ zs. Among zs x) (sym e) h.0, λ a. h.1 (subst (λ zs. Among zs x) g a))

pub one_lacks : (xs xs' ys ys' : List Name) → xs ≡ xs' → ys ≡ ys' → (o : Option (Bor Name)) (x : Bor Name) → Finds (IsAbsent xs ys) (option_copied o) → o ≡ Some x → IsAbsent xs' ys' x.now
one_lacks xs xs' ys ys' e g o x found is =
    let h = one_found (IsAbsent xs ys) o x found is in (subst (λ zs. Among zs x.now) e h.0, λ a. h.1 (subst (λ zs. Among zs x.now) (sym g) a))

pub repeats_none : (xs xs' : List Name) → xs ≡ xs' → (o : Option (Bor Name)) → Finds (Repeats xs) (option_copied o) → ((x : Bor Name) → o ≡ Some x → ⊥) → (x : Name) → Repeats xs' x → ⊥
repeats_none xs xs' e o found no' x h = none_found (Repeats xs) o found no' x (subst (λ zs. Repeats zs x) (sym e) h)

-- nothing stands past the end
pub none_left : {A B : Type 0} (f : A → B) (xs : List A) (i : ℕ) → length xs ≤ i → (y : B) → Among (map f (drop i xs)) y → ⊥
none_left f xs i le y a = subst (λ zs. Among (map f zs) y) (drop_of_length-le xs {i = i} le) a
