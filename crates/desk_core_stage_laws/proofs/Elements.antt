-- What each element of a list keeps, in lists of expressions and in lists that a text spells.
use Rattle.std.proofs.Common.{◌≡◌, ℕ, ◌+◌, List, [], ◌∷◌, ◌++◌, subst, ⊎_elim, map}
use Rattle.std.specs.List.{flat_map}
use Rattle.vlog_tree.specs.Lists.{Sequence, More, Separated}
use Rattle.vlog_tree_runs.specs.Places.{Among}
use Rattle.elab_flat_laws.proofs.Lists.{among_append, among_map, among_flat}

abbrev pub Each : {A : Type 0} → (A → Type 0) → List A → Type 0
Each P xs = (x : _) → Among xs x → P x

pub each_none : {A : Type 0} (P : A → Type 0) → Each P []
each_none P x h = absurd h

pub each_more : {A : Type 0} (P : A → Type 0) (x : A) (xs : List A) → P x → Each P xs → Each P (x ∷ xs)
each_more P x xs p ps y h = ⊎_elim (λ (e : x ≡ y). subst P e p) (λ m. ps y m) h

pub each_one : {A : Type 0} (P : A → Type 0) (x : A) → P x → Each P (x ∷ [])
each_one P x p = each_more P x [] p (each_none P)

pub each_append : {A : Type 0} (P : A → Type 0) (xs ys : List A) → Each P xs → Each P ys → Each P (xs ++ ys)
each_append P xs ys p q z h = ⊎_elim (λ m. p z m) (λ m. q z m) (among_append xs ys z h)

pub each_map : {A B : Type 0} (P : B → Type 0) (f : A → B) (xs : List A) → Each (λ x. P (f x)) xs → Each P (map f xs)
each_map P f xs p y h = let r = among_map f xs y h in subst P r.2 (p r.0 r.1)

pub each_flat : {A B : Type 0} (P : B → Type 0) (f : A → List B) (xs : List A) → Each (λ x. Each P (f x)) xs → Each P (flat_map f xs)
each_flat P f xs p y h = let r = among_flat f xs y h in p r.0 r.1 y r.2

-- ---- lists that a text spells

module _ {A : Type 0} (P : ℕ → A → ℕ → Type 0) (Q : A → Type 0) (known : (i : ℕ) (x : A) (j : ℕ) → P i x j → Q x) where
  pub each_of_sequence : (i : ℕ) (xs : List A) (j : ℕ) → Sequence P i xs j → Each Q xs
  each_of_sequence i [] j p = each_none Q
  each_of_sequence i (x ∷ xs) j p = each_more Q x xs (known i x p.0 p.1) (each_of_sequence p.0 xs j p.2)

  each_further : (sep : ℕ → Type 0) (i : ℕ) (xs : List A) (j : ℕ) → More sep P i xs j → Each Q xs
  each_further sep i [] j p = each_none Q
  each_further sep i (x ∷ xs) j p = each_more Q x xs (known (i + 1) x p.0 p.2) (each_further sep p.0 xs j p.3)

  pub each_of_list : (sep : ℕ → Type 0) (i : ℕ) (xs : List A) (j : ℕ) → Separated sep P i xs j → Each Q xs
  each_of_list sep i [] j p = absurd p
  each_of_list sep i (x ∷ xs) j p = each_more Q x xs (known i x p.0 p.1) (each_further sep p.0 xs j p.2)
