-- Names and what they name are found in lists.
use Rattle.std.proofs.Common.{ℕ, suc, ◌≡◌, ◌+◌, Bool, true, false, cond, ◌<◌, List, [], ◌∷◌, length, drop, get_or, drop-cons, add-one, Bor, Option, Some, None, is_some, map, refl, sym, ap, ◌∙◌, arith, inl, inr, if◌then◌else◌}
use Rattle.std.specs.Option.{option_or, option_map, option_copied}
use Rattle.std.specs.Slice.{IsItemAt}
use Rattle.std.specs.List.{find, slice_get}
use Rattle.std.specs.Str.{bytes_eq}
use Rattle.std.proofs.lemmas.Bool.{cases_Bool}
use Rattle.std.proofs.lemmas.Option.{slice_get_past, slice_get_read, slice_get-map}
use Rattle.std.proofs.lemmas.Slice.Eq.{bytes_eq-Decides}
use Rattle.vlog_tree.specs.declared.module.Module.{Module}
use Rattle.vlog_tree_runs.specs.Places.{Name}
use Rattle.vlog_tree_runs.specs.Contents.{Decl, is_among}
use Rattle.vlog_tree_runs.specs.Scopes.{module_at, decl_at}
use Rattle.elab_flat_scopes.specs.Borrowed.{name_meant}
use Rattle.elab_flat_scopes.specs.Finding.{place_from}

-- ---- first places in a map

same_bytes : (x y : Name) → bytes_eq x y ≡ true → x ≡ y
same_bytes x y e = (bytes_eq-Decides x y).0 e

-- a name that the map doesn't have is put into it
pub put_new : (old new : Name → Option ℕ) (key q : Name) (i : ℕ) (rest : Option ℕ) → is_some (old key) ≡ false → new q ≡ cond (bytes_eq key q) (Some i) (old q) →
    option_or (new q) rest ≡ option_or (old q) (if bytes_eq key q then Some i else rest)
put_new old new key q i rest none up = elim (cases_Bool (bytes_eq key q)) [
  | inl e ↦ rw (up, e) (by_none (old q) (ap (λ k. is_some (old k)) (sym (same_bytes key q e)) ∙ none))
  | inr e ↦ rw (up, e) refl
]
  where
    by_none : (o : Option ℕ) → is_some o ≡ false → Some i ≡ option_or o (Some i)
    by_none None h = refl
    by_none (Some k) h = cc

-- one that the map has stays where it is
pub put_old : (old : Name → Option ℕ) (key q : Name) (i : ℕ) (rest : Option ℕ) → is_some (old key) ≡ true →
    option_or (old q) rest ≡ option_or (old q) (if bytes_eq key q then Some i else rest)
put_old old key q i rest some = elim (cases_Bool (bytes_eq key q)) [
  | inl e ↦ rw e (by_some (old q) (ap (λ k. is_some (old k)) (sym (same_bytes key q e)) ∙ some))
  | inr e ↦ rw e refl
]
  where
    by_some : (o : Option ℕ) → is_some o ≡ true → option_or o rest ≡ option_or o (Some i)
    by_some None h = cc
    by_some (Some k) h = refl

-- the rest of a list from a place on
pub cut : {X : Type 0} (xs : List X) (i : ℕ) (x : X) → i < length xs → x ≡ get_or xs i x → drop i xs ≡ x ∷ drop (suc i) xs
cut xs i x lt is = drop-cons xs i x lt ∙ ap (λ z. z ∷ drop (suc i) xs) (sym is)

module _ (names : List (Bor Name)) (at i : ℕ) (x : Bor Name) (lt : i < length names) (is : x ≡ get_or names i x) (old : Name → Option ℕ) (key q : Name) (whole : Option ℕ)
    (same : key ≡ x.now) (inv : option_or (old q) (place_from at (map name_meant (drop i names)) q) ≡ whole) where
  abbrev later : Option ℕ
  later = place_from (suc at) (map name_meant (drop (suc i) names)) q

  at_key : option_or (old q) (if bytes_eq key q then Some at else later) ≡ whole
  at_key = ap (λ k. option_or (old q) (if bytes_eq k q then Some at else later)) same ∙ (ap (λ ns. option_or (old q) (place_from at (map name_meant ns) q)) (sym (cut names i x lt is)) ∙ inv)

  pub next_new : (new : Name → Option ℕ) → is_some (old key) ≡ false → new q ≡ cond (bytes_eq key q) (Some at) (old q) → option_or (new q) (place_from (at + 1) (map name_meant (drop (i + 1) names)) q) ≡ whole
  next_new new none up = rw (add-one, add-one) (put_new old new key q at later none up ∙ at_key)

  pub next_old : is_some (old key) ≡ true → option_or (old q) (place_from (at + 1) (map name_meant (drop (i + 1) names)) q) ≡ whole
  next_old some = rw (add-one, add-one) (put_old old key q at later some ∙ at_key)

-- ---- names in a list

pub has_place : (i : ℕ) (xs : List Name) (x : Name) → is_some (place_from i xs x) ≡ is_among xs x
has_place i [] x = refl
has_place i (y ∷ ys) x = elim (cases_Bool (bytes_eq y x)) [ inl e ↦ rw e refl | inr e ↦ rw e (has_place (suc i) ys x) ]

-- ---- what has a name

module _ {X : Type 0} (name : X → Name) where
  named : Name → X → Bool
  named x m = bytes_eq (name m) x

  pub found_at : (i k : ℕ) (xs : List X) (x : Name) → place_from i (map name xs) x ≡ Some k → (j : ℕ) × (k ≡ i + j) × (slice_get xs j ≡ find (λ m. bytes_eq (name m) x) xs)
  found_at i k [] x e = cc
  found_at i k (m ∷ ms) x e = elim (cases_Bool (bytes_eq (name m) x)) [
    | inl y ↦ (let k_is : Some i ≡ Some k = rw y at e in (0, omega (arith, here i k k_is), rw y refl))
    | inr n ↦ (let r = found_at (suc i) k ms x (rw n at e) in (suc r.0, omega (arith, r.1), rw n r.2))
  ]
    where
      here : (i k : ℕ) → Some i ≡ Some k → i ≡ k
      here i k e = cc

  pub found_nowhere : (i : ℕ) (xs : List X) (x : Name) → place_from i (map name xs) x ≡ None → find (λ m. bytes_eq (name m) x) xs ≡ None
  found_nowhere i [] x e = refl
  found_nowhere i (m ∷ ms) x e = elim (cases_Bool (bytes_eq (name m) x)) [
    | inl y ↦ (let z : Some i ≡ None = rw y at e in cc)
    | inr n ↦ rw n (found_nowhere (suc i) ms x (rw n at e))
  ]

pub module_found : (ms : List Module) (x : Name) → find (λ m. bytes_eq m.name x) ms ≡ module_at ms x
module_found [] x = refl
module_found (m ∷ ms) x = ap (λ o. if bytes_eq m.name x then Some m else o) (module_found ms x)

pub decl_found : (ds : List Decl) (x : Name) → find (λ d. bytes_eq d.name x) ds ≡ decl_at ds x
decl_found [] x = refl
decl_found (d ∷ ds) x = ap (λ o. if bytes_eq d.name x then Some d else o) (decl_found ds x)

-- ---- what stands at the place of a name

module _ {X : Type 0} (name : X → Name) (xs : List X) (names : List Name) (x : Name) (same : names ≡ map name xs) (o : Option ℕ) (place : o ≡ place_from 0 names x) where
  pub finds_at : (k : ℕ) → o ≡ Some k → slice_get xs k ≡ find (λ m. bytes_eq (name m) x) xs
  finds_at k e =
      let r = found_at name 0 k xs x (ap (λ ns. place_from 0 ns x) (sym same) ∙ (sym place ∙ e)) in
      let at : k ≡ r.0 = omega (arith, r.1) in
      ap (slice_get xs) at ∙ r.2

  pub finds_none : o ≡ None → find (λ m. bytes_eq (name m) x) xs ≡ None
  finds_none e = found_nowhere name 0 xs x (ap (λ ns. place_from 0 ns x) (sym same) ∙ (sym place ∙ e))

-- what `get` gives
pub got : {X : Type 0} (xs : List X) (i : ℕ) (r : Option (Bor X)) → IsItemAt xs i r → option_copied r ≡ slice_get xs i
got xs i None is = sym (slice_get_past xs i is.3)
got xs i (Some x) is = sym (slice_get_read xs (length xs) i x.now refl is.3.0 is.1)

pub got_meant : {X Y : Type 0} (f : X → Y) (xs : List X) (i : ℕ) (r : Option (Bor X)) → IsItemAt xs i r → option_map (λ x. f x.now) r ≡ slice_get (map f xs) i
got_meant f xs i r is = mapped r ∙ (ap (option_map f) (got xs i r is) ∙ sym (slice_get-map f xs i))
  where
    mapped : (r : Option (Bor _)) → option_map (λ x. f x.now) r ≡ option_map f (option_copied r)
    mapped None = refl
    mapped (Some x) = refl
