-- Elements of lists, and tests.
use Rattle.std.proofs.Common.{◌≡◌, Bool, true, false, List, [], ◌∷◌, ◌++◌, Option, Some, None, sym, ap, ◌∙◌, refl, ◌⊎◌, inl, inr, ⊎_elim, map, subst}
use Rattle.std.specs.Prelude.{is_some}
use Rattle.std.specs.Option.{option_map}
use Rattle.std.specs.List.{flat_map}
use Rattle.std.specs.Str.{bytes_eq}
use Rattle.std.proofs.lemmas.Slice.Eq.{bytes_eq-Decides}
use Rattle.std.proofs.lemmas.List.{append_cancel_left, append_assoc}
use Rattle.vlog_tree_runs.specs.Places.{Name, Among}

pub bool_cases : (b : Bool) → (b ≡ true) ⊎ (b ≡ false)
bool_cases true = inl refl
bool_cases false = inr refl

pub bools_same : (a b : Bool) → (a ≡ true → b ≡ true) → (b ≡ true → a ≡ true) → a ≡ b
bools_same true true f g = refl
bools_same true false f g = sym (f refl)
bools_same false true f g = g refl
bools_same false false f g = refl

pub none_of : {A B : Type 0} (f : A → B) (o : Option A) → is_some o ≡ false → option_map f o ≡ None
none_of f None h = refl
none_of f (Some a) h = cc

pub none_not_some : {A : Type 0} (o : Option A) → is_some o ≡ true → o ≡ None → ⊥
none_not_some None h e = cc
none_not_some (Some k) h e = cc

pub among_append : {X : Type 0} (xs ys : List X) (z : X) → Among (xs ++ ys) z → Among xs z ⊎ Among ys z
among_append [] ys z h = inr h
among_append (x ∷ xs) ys z h =
    ⊎_elim (λ e. inl (inl e)) (λ m. ⊎_elim (λ a. inl (inr a)) (λ b. inr b) (among_append xs ys z m)) h

pub append_left : {X : Type 0} (xs ys : List X) (z : X) → Among xs z → Among (xs ++ ys) z
append_left [] ys z h = absurd h
append_left (x ∷ xs) ys z h = ⊎_elim (λ e. inl e) (λ m. inr (append_left xs ys z m)) h

pub append_right : {X : Type 0} (xs ys : List X) (z : X) → Among ys z → Among (xs ++ ys) z
append_right [] ys z h = h
append_right (x ∷ xs) ys z h = inr (append_right xs ys z h)

pub among_map : {X Y : Type 0} (f : X → Y) (xs : List X) (y : Y) → Among (map f xs) y → (x : X) × Among xs x × (f x ≡ y)
among_map f [] y h = absurd h
among_map f (x ∷ xs) y h =
    ⊎_elim (λ e. (x, inl refl, e)) (λ m. let r = among_map f xs y m in (r.0, inr r.1, r.2)) h

pub map_among : {X Y : Type 0} (f : X → Y) (xs : List X) (x : X) → Among xs x → Among (map f xs) (f x)
map_among f [] x h = absurd h
map_among f (y ∷ xs) x h = ⊎_elim (λ e. inl (ap f e)) (λ m. inr (map_among f xs x m)) h

pub among_flat : {X Y : Type 0} (f : X → List Y) (xs : List X) (y : Y) → Among (flat_map f xs) y → (x : X) × Among xs x × Among (f x) y
among_flat f [] y h = absurd h
among_flat f (x ∷ xs) y h =
    ⊎_elim (λ a. (x, inl refl, a)) (λ m. let r = among_flat f xs y m in (r.0, inr r.1, r.2)) (among_append (f x) (flat_map f xs) y h)

pub flat_among : {X Y : Type 0} (f : X → List Y) (xs : List X) (x : X) (y : Y) → Among xs x → Among (f x) y → Among (flat_map f xs) y
flat_among f [] x y h k = absurd h
flat_among f (z ∷ xs) x y h k =
    ⊎_elim (λ e. append_left (f z) (flat_map f xs) y (subst (λ u. Among (f u) y) (sym e) k))
    (λ m. append_right (f z) (flat_map f xs) y (flat_among f xs x y m k)) h

pub map_append : {A B : Type 0} (f : A → B) (xs ys : List A) → map f (xs ++ ys) ≡ map f xs ++ map f ys
map_append f [] ys = refl
map_append f (x ∷ xs) ys = ap (λ zs. f x ∷ zs) (map_append f xs ys)

pub flat_append : {A B : Type 0} (f : A → List B) (xs ys : List A) → flat_map f (xs ++ ys) ≡ flat_map f xs ++ flat_map f ys
flat_append f [] ys = refl
flat_append f (x ∷ xs) ys = ap (λ zs. f x ++ zs) (flat_append f xs ys) ∙ sym (append_assoc (f x) (flat_map f xs) (flat_map f ys))

-- equal fronts can be left out
pub eq_under : (pre x y : Name) → bytes_eq (pre ++ x) (pre ++ y) ≡ bytes_eq x y
eq_under pre x y =
    bools_same (bytes_eq (pre ++ x) (pre ++ y)) (bytes_eq x y)
    (λ h. (bytes_eq-Decides x y).1 (append_cancel_left pre x y ((bytes_eq-Decides (pre ++ x) (pre ++ y)).0 h)))
    (λ h. (bytes_eq-Decides (pre ++ x) (pre ++ y)).1 (ap (λ z. pre ++ z) ((bytes_eq-Decides x y).0 h)))
