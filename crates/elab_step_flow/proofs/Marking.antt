-- Places of names, one name after another.
use Rattle.std.proofs.Common.{◌≡◌, ℕ, zero, suc, ◌+◌, ◌≤◌, ◌<◌, ◌⊎◌, ◌↔◌, inl, inr, Bool, true, false, List, [], ◌∷◌, ◌++◌, append_assoc, map, length, replicate, get_or, set, drop, drop-cons, add-one, Some, None, get_or-set_same, get_or-set_other, arith, refl, sym, ap, ◌∙◌, subst}
use Rattle.std.specs.List.{flat_map}
use Rattle.std.specs.Str.{bytes_eq}
use Rattle.std.proofs.lemmas.Bool.{cases_Bool, cases_eq}
use Rattle.std.proofs.lemmas.List.{map-append}
use Rattle.vlog_tree.specs.declared.expr.Expr.{Expr, Row_of-Expr, end_of-Expr, more_of-Expr}
use Rattle.vlog_tree.specs.declared.expr.Expr.TheVariants as e
use Rattle.vlog_tree.specs.declared.stmt.Lval.{Lval, Row_of-Lval, end_of-Lval, more_of-Lval}
use Rattle.vlog_tree.specs.declared.stmt.Lval.TheVariants as l
use Rattle.vlog_tree_runs.specs.Places.{Name}
use Rattle.vlog_tree_runs.specs.Blocks.{left_names, row_names}
use Rattle.elab_flat_faults.specs.Texts.{names_in, row_names_in, numbers_in, row_numbers_in}
use Rattle.elab_flat_laws.proofs.Lists.{flat_append, among_append, append_left, append_right}
use Rattle.elab_flat_scopes.specs.Finding.{place_from, place_in}
use Rattle.elab_flat_faults.specs.Drivers.{parts_of, row_parts_of}
use Rattle.elab_flat_drivers.specs.Parts.{reads_of, row_reads}
use Rattle.elab_flat_drivers.specs.Claims.{part_name}
use Rattle.elab_step_flow.specs.Sets.{at, Has}
use Rattle.elab_step_flow.specs.Marks.{IsPlaceOf, Adds}

some_is : {A : Type 0} (x y : A) → Some x ≡ Some y → x ≡ y
some_is x y e = cc

pub place_below : (i : ℕ) (ys : List Name) (x : Name) (j : ℕ) → place_from i ys x ≡ Some j → j < i + length ys
place_below i [] x j e = cc
place_below i (y ∷ ys) x j e = elim (cases_Bool (bytes_eq y x)) [
  | inl t ↦ (let h : i ≡ j = some_is i j (rw t at e) in omega arith)
  | inr f ↦ (let h : j < suc i + length ys = place_below (suc i) ys x j (rw f at e) in omega arith)
]

pub cut : {X : Type 0} (xs : List X) (i : ℕ) (x : X) → i < length xs → x ≡ get_or xs i x → drop i xs ≡ x ∷ drop (i + 1) xs
cut xs i x lt is = rw add-one (drop-cons xs i x lt ∙ ap (λ z. z ∷ drop (suc i) xs) (sym is))

-- ---- one name

module _ (names : List Name) where
  same_some : (x : Name) (i j : ℕ) → place_in names x ≡ Some i → place_in names x ≡ Some j → i ≡ j
  same_some x i j e f = some_is i j (sym e ∙ f)

  pub adds_found : (x : Name) (old : List Bool) (i : ℕ) → length old ≡ length names → place_in names x ≡ Some i → Adds names (x ∷ []) old (set old i true)
  adds_found x old i size e j = elim (cases_eq j i) [
    | inl s ↦ (λ h. inr (x, inl refl, subst (λ k. place_in names x ≡ Some k) (sym s) e), λ h. subst (λ k. at (set old i true) k ≡ true) (sym s) (get_or-set_same old i true false within))
    | inr n ↦ (
        let same : at (set old i true) j ≡ at old j = get_or-set_other old i j true false n in
        (λ h. inl (sym same ∙ h), λ h. elim h [ inl f ↦ same ∙ f | inr f ↦ absurd (other n f) ])
        )
  ]
    where
      within : i < length old
      within = let h : i < 0 + length names = place_below 0 names x i e in omega arith

      other : (j ≡ i → ⊥) → IsPlaceOf names (x ∷ []) j → ⊥
      other n (y, inl s, f) = n (same_some x j i (subst (λ z. place_in names z ≡ Some j) (sym s) f) e)
      other n (y, inr s, f) = absurd s

  pub adds_none : (x : Name) (old : List Bool) → place_in names x ≡ None → Adds names (x ∷ []) old old
  adds_none x old e j = (λ h. inl h, λ h. elim h [ inl f ↦ f | inr f ↦ absurd (other f) ])
    where
      other : IsPlaceOf names (x ∷ []) j → ⊥
      other (y, inl s, f) = let z = sym (subst (λ z. place_in names z ≡ Some j) (sym s) f) ∙ e in cc
      other (y, inr s, f) = absurd s

  -- ---- names one after another

  -- a set with the places of the names that are left
  abbrev pub WithRest : List Name → List Bool → List Name → List Bool → Type 0
  WithRest xs old rest now = (i : ℕ) → (Has now i ⊎ IsPlaceOf names rest i) ↔ (Has old i ⊎ IsPlaceOf names xs i)

  pub step : (xs : List Name) (old : List Bool) (x : Name) (rest : List Name) (now new : List Bool) → WithRest xs old (x ∷ rest) now → Adds names (x ∷ []) now new → WithRest xs old rest new
  step xs old x rest now new w a i = (λ h. (w i).0 (there h), λ h. back ((w i).1 h))
    where
      there : Has new i ⊎ IsPlaceOf names rest i → Has now i ⊎ IsPlaceOf names (x ∷ rest) i
      there (inl h) = elim ((a i).0 h) [ inl f ↦ inl f | inr f ↦ inr (first f) ]
        where
          first : IsPlaceOf names (x ∷ []) i → IsPlaceOf names (x ∷ rest) i
          first (y, inl s, f) = (y, inl s, f)
          first (y, inr s, f) = absurd s
      there (inr (y, m, f)) = inr (y, inr m, f)

      back : Has now i ⊎ IsPlaceOf names (x ∷ rest) i → Has new i ⊎ IsPlaceOf names rest i
      back (inl h) = inl ((a i).1 (inl h))
      back (inr (y, inl s, f)) = inl ((a i).1 (inr (y, inl s, f)))
      back (inr (y, inr m, f)) = inr (y, m, f)

  pub step_many : (xs : List Name) (old : List Bool) (us rest : List Name) (now new : List Bool) → WithRest xs old (us ++ rest) now → Adds names us now new → WithRest xs old rest new
  step_many xs old us rest now new w a i = (λ h. (w i).0 (there h), λ h. back ((w i).1 h))
    where
      there : Has new i ⊎ IsPlaceOf names rest i → Has now i ⊎ IsPlaceOf names (us ++ rest) i
      there (inl h) = elim ((a i).0 h) [ inl f ↦ inl f | inr f ↦ inr (f.0, append_left us rest f.0 f.1, f.2) ]
      there (inr f) = inr (f.0, append_right us rest f.0 f.1, f.2)

      back : Has now i ⊎ IsPlaceOf names (us ++ rest) i → Has new i ⊎ IsPlaceOf names rest i
      back (inl h) = inl ((a i).1 (inl h))
      back (inr f) = elim (among_append us rest f.0 f.1) [ inl g ↦ inl ((a i).1 (inr (f.0, g, f.2))) | inr g ↦ inr (f.0, g, f.2) ]

  pub ended : (xs : List Name) (old now : List Bool) → WithRest xs old [] now → Adds names xs old now
  ended xs old now w i = (λ h. (w i).0 (inl h), λ h. elim ((w i).1 h) [ inl f ↦ f | inr f ↦ absurd f.1 ])

  pub started : (xs : List Name) (old : List Bool) → WithRest xs old xs old
  started xs old i = (λ h. h, λ h. h)

  pub adds_append : (xs ys : List Name) (r s t : List Bool) → Adds names xs r s → Adds names ys s t → Adds names (xs ++ ys) r t
  adds_append xs ys r s t a b i = (λ h. there ((b i).0 h), λ h. (b i).1 (back h))
    where
      there : Has s i ⊎ IsPlaceOf names ys i → Has r i ⊎ IsPlaceOf names (xs ++ ys) i
      there (inl h) = elim ((a i).0 h) [ inl f ↦ inl f | inr f ↦ inr (f.0, append_left xs ys f.0 f.1, f.2) ]
      there (inr f) = inr (f.0, append_right xs ys f.0 f.1, f.2)

      back : Has r i ⊎ IsPlaceOf names (xs ++ ys) i → Has s i ⊎ IsPlaceOf names ys i
      back (inl h) = inl ((a i).1 (inl h))
      back (inr f) = elim (among_append xs ys f.0 f.1) [ inl g ↦ inl ((a i).1 (inr (f.0, g, f.2))) | inr g ↦ inr (f.0, g, f.2) ]

  pub adds_nothing : (s : List Bool) → Adds names [] s s
  adds_nothing s i = (λ h. inl h, λ h. elim h [ inl f ↦ f | inr f ↦ absurd f.1 ])

  pub adds_two : (xs ys : List Name) (r s t : List Bool) → Adds names xs r s → Adds names ys s t → Adds names (xs ++ (ys ++ [])) r t
  adds_two xs ys r s t a b = adds_append xs (ys ++ []) r s t a (adds_append ys [] s t t b (adds_nothing t))

pub drop_past : {X : Type 0} (xs : List X) (i : ℕ) → length xs ≤ i → drop i xs ≡ []
drop_past [] zero h = refl
drop_past [] (suc i) h = refl
drop_past (x ∷ xs) zero h = absurd (omega arith)
drop_past (x ∷ xs) (suc i) h = drop_past xs i (omega arith)

-- ---- names in texts

twice : (xs ys : List Lval) (us vs : List Name) → us ≡ map part_name xs → vs ≡ map part_name ys → us ++ vs ≡ map part_name (xs ++ ys)
twice xs ys us vs f g = (λ i. f i ++ g i) ∙ sym (map-append part_name xs ys)

mutual
  pub reads_names : (a : Expr) → names_in a ≡ map part_name (reads_of a)
  reads_names (e.Number n) = refl
  reads_names (e.Name y) = refl
  reads_names (e.Select' y h (more_of-Expr a end_of-Expr)) = ap (λ z. y.text ∷ z) (reads_names a)
  reads_names (e.Part' y span h (more_of-Expr a end_of-Expr) g (more_of-Expr c end_of-Expr)) =
      ap (λ z. y.text ∷ z) (twice (reads_of a) (reads_of c) (names_in a) (names_in c) (reads_names a) (reads_names c))
  reads_names (e.ConstantSelect' k h (more_of-Expr a end_of-Expr)) = reads_names a
  reads_names (e.ConstantPart' k span h (more_of-Expr a end_of-Expr) g (more_of-Expr c end_of-Expr)) =
      twice (reads_of a) (reads_of c) (names_in a) (names_in c) (reads_names a) (reads_names c)
  reads_names (e.Cast' cast h (more_of-Expr a end_of-Expr)) = reads_names a
  reads_names (e.Paren' h (more_of-Expr a end_of-Expr)) = reads_names a
  reads_names (e.Concat' h row) = row_reads_names row
  reads_names (e.Repeat' h (more_of-Expr a end_of-Expr) g row) = twice (reads_of a) (row_reads row) (names_in a) (row_names_in row) (reads_names a) (row_reads_names row)
  reads_names (e.Unary' op h (more_of-Expr a end_of-Expr)) = reads_names a
  reads_names (e.Binary' op h (more_of-Expr a end_of-Expr) g (more_of-Expr c end_of-Expr)) =
      twice (reads_of a) (reads_of c) (names_in a) (names_in c) (reads_names a) (reads_names c)
  reads_names (e.Choice' h (more_of-Expr d end_of-Expr) g (more_of-Expr a end_of-Expr) i (more_of-Expr c end_of-Expr)) =
      append_assoc (names_in d) (names_in a) (names_in c)
      ∙ twice (reads_of d) (reads_of a ++ reads_of c) (names_in d) (names_in a ++ names_in c) (reads_names d) (twice (reads_of a) (reads_of c) (names_in a) (names_in c) (reads_names a) (reads_names c))

  row_reads_names : {m : _} (row : Row_of-Expr m) → row_names_in row ≡ map part_name (row_reads row)
  row_reads_names end_of-Expr = refl
  row_reads_names (more_of-Expr a rest) = twice (reads_of a) (row_reads rest) (names_in a) (row_names_in rest) (reads_names a) (row_reads_names rest)

mutual
  pub parts_names : (left : Lval) → left_names left ≡ map part_name (parts_of left)
  parts_names (l.Name x) = refl
  parts_names (l.Select x a) = refl
  parts_names (l.Part x span a c) = refl
  parts_names (l.Concat' g row) = row_parts_names row

  row_parts_names : {n : _} (row : Row_of-Lval n) → row_names row ≡ map part_name (row_parts_of row)
  row_parts_names end_of-Lval = refl
  row_parts_names (more_of-Lval a rest) = twice (parts_of a) (row_parts_of rest) (left_names a) (row_names rest) (parts_names a) (row_parts_names rest)

mutual
  pub parts_numbers : (left : Lval) → flat_map numbers_in (parts_of left) ≡ numbers_in left
  parts_numbers (l.Name x) = refl
  parts_numbers (l.Select x a) = refl
  parts_numbers (l.Part x span a c) = refl
  parts_numbers (l.Concat' g row) = row_parts_numbers row

  row_parts_numbers : {n : _} (row : Row_of-Lval n) → flat_map numbers_in (row_parts_of row) ≡ row_numbers_in row
  row_parts_numbers end_of-Lval = refl
  row_parts_numbers (more_of-Lval a rest) = flat_append numbers_in (parts_of a) (row_parts_of rest) ∙ (λ i. parts_numbers a i ++ row_parts_numbers rest i)

-- the numbers of a part and of those after it
pub numbers_cut : (x : Lval) (xs : List Lval) →
    flat_map names_in (flat_map numbers_in (x ∷ xs)) ≡ flat_map names_in (numbers_in x) ++ flat_map names_in (flat_map numbers_in xs)
numbers_cut x xs = flat_append names_in (numbers_in x) (flat_map numbers_in xs)

pub none_in : (n i : ℕ) → Has (replicate n false) i → ⊥
none_in zero i h = let z : false ≡ true = h in cc
none_in (suc n) zero h = let z : false ≡ true = h in cc
none_in (suc n) (suc i) h = none_in n i h
