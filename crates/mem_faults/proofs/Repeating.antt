-- The names that stand a second time are those with an earlier place.
use Rattle.std.proofs.Common.{◌≡◌, ℕ, zero, suc, ◌+◌, ◌<◌, ◌≤◌, ◌||◌, nat_lt, nat_eq, Bool, true, false, cond, ◌⊎◌, inl, inr, List, [], ◌∷◌, ◌++◌, map, length, length-append, append_assoc, drop, get_or, drop_of_length-le, refl, sym, ap, ◌∙◌, subst, arith}
use Rattle.std.specs.Prelude.{Option, Some, None}
use Rattle.std.specs.List.{flat_map}
use Rattle.std.specs.Str.{bytes_eq}
use Rattle.std.proofs.lemmas.Bool.{lt-ltb, le-ltb}
use Rattle.std.proofs.lemmas.Slice.Eq.{bytes_eq-Decides}
use Rattle.vlog_tree.specs.declared.valuation.Entry.{Entry}
use Rattle.vlog_tree_runs.specs.declared.flat.Flat.{Flat}
use Rattle.vlog_tree_runs.specs.declared.flat.Signal.{Signal}
use Rattle.vlog_tree_runs.specs.Places.{Name, Among, entry_of, entries_of, held_entry, words_from}
use Rattle.vlog_tree_runs.specs.Contents.{is_among}
use Rattle.vlog_tree_runs.specs.Cycles.{flat_place}
use Rattle.elab_flat_laws.specs.Uses.{names_of, known}
use Rattle.elab_flat_laws.proofs.Lists.{bool_cases, map_append, among_append, append_left, append_right, flat_among}
use Rattle.elab_flat_faults.specs.Constants.{at_rest}
use Rattle.elab_flat_faults.specs.Declaring.{Repeats, words_of}
use Rattle.elab_flat_scopes.specs.Finding.{place_from, place_in}
use Rattle.elab_flat_drivers.proofs.Naming.{among_of, of_among}
use Rattle.mem_faults.proofs.Growing.{cut}
use Rattle.mem_faults.specs.Repeated.{entry_name, is_before, later_names}

-- ---- places

one_within : (k : ℕ) (pre rest : List Name) (y x : Name) (i : ℕ) (t : Bool) → k < i → is_before (place_from (suc k) (pre ++ x ∷ rest) x) i ≡ is_among pre x →
    is_before (cond t (Some k) (place_from (suc k) (pre ++ x ∷ rest) x)) i ≡ t || is_among pre x
one_within k pre rest y x i true lt h = lt-ltb k i lt
one_within k pre rest y x i false lt h = h

-- the place of a name that stands before, or else that of the name itself
place_within : (k : ℕ) (pre rest : List Name) (x : Name) (i : ℕ) → i ≡ k + length pre → is_before (place_from k (pre ++ x ∷ rest) x) i ≡ is_among pre x
place_within k [] rest x i e =
    let self : bytes_eq x x ≡ true = (bytes_eq-Decides x x).1 refl in
    let le : i ≤ k = omega arith in
    ap (λ (b : Bool). is_before (cond b (Some k) (place_from (suc k) rest x)) i) self ∙ le-ltb k i le
place_within k (y ∷ pre) rest x i e =
    let lt : k < i = omega arith in
    let next : i ≡ suc k + length pre = omega arith in
    one_within k pre rest y x i (bytes_eq y x) lt (place_within (suc k) pre rest x i next)

-- the name is among the earlier ones or stands twice in the others
abbrev Again : List Name → List Name → Name → Type 0
Again pre rest x = (Among pre x × Among rest x) ⊎ Repeats rest x

module _ (x : Name) where
  split_at : (pre : List Name) (y : Name) (ys : List Name) → pre ++ y ∷ ys ≡ (pre ++ y ∷ []) ++ ys
  split_at pre y ys = sym (append_assoc pre (y ∷ []) ys)

  more_length : (pre : List Name) (y : Name) → suc (length pre) ≡ length (pre ++ y ∷ [])
  more_length pre y = let h = length-append pre (y ∷ []) in omega arith

  -- one name more that is passed
  step : (pre : List Name) (y : Name) (ys : List Name) → Again (pre ++ y ∷ []) ys x → Again pre (y ∷ ys) x
  step pre y ys (inl (h, k)) = elim (among_append pre (y ∷ []) x h) [ inl m ↦ inl (m, inr k) | inr m ↦ elim m [ inl e ↦ inr (inl (e, k)) | inr z ↦ absurd z ] ]
  step pre y ys (inr h) = inr (inr h)

  step_back : (pre : List Name) (y : Name) (ys : List Name) → Again pre (y ∷ ys) x → (Among pre x × (y ≡ x)) ⊎ Again (pre ++ y ∷ []) ys x
  step_back pre y ys (inl (h, inl e)) = inl (h, e)
  step_back pre y ys (inl (h, inr k)) = inr (inl (append_left pre (y ∷ []) x h, k))
  step_back pre y ys (inr (inl (e, k))) = inr (inl (append_right pre (y ∷ []) x (inl e), k))
  step_back pre y ys (inr (inr h)) = inr (inr h)

  later_one : (all : List Name) (i : ℕ) (y : Name) (ys : List Name) (t : Bool) → is_before (place_in all y) i ≡ t → later_names all i (y ∷ ys) ≡ cond t (y ∷ later_names all (suc i) ys) (later_names all (suc i) ys)
  later_one all i y ys t h = ap (λ (b : Bool). cond b (y ∷ later_names all (suc i) ys) (later_names all (suc i) ys)) h

  earlier : (all pre : List Name) (y : Name) (ys : List Name) → all ≡ pre ++ y ∷ ys → is_before (place_in all y) (length pre) ≡ is_among pre y
  earlier all pre y ys e = ap (λ z. is_before (place_in z y) (length pre)) e ∙ place_within 0 pre ys y (length pre) (omega arith)

  test_at : (all pre : List Name) (y : Name) (ys : List Name) (i : ℕ) → all ≡ pre ++ y ∷ ys → i ≡ length pre → is_before (place_in all y) i ≡ is_among pre y
  test_at all pre y ys i e f = ap (λ n. is_before (place_in all y) n) f ∙ earlier all pre y ys e

  from_later : (pre : List Name) (y : Name) (ys zs : List Name) (t : Bool) → is_among pre y ≡ t → (Among zs x → Again (pre ++ y ∷ []) ys x) → Among (cond t (y ∷ zs) zs) x → Again pre (y ∷ ys) x
  from_later pre y ys zs true t k (inl h) = inl (subst (λ z. Among pre z) h (among_of pre y t), inl h)
  from_later pre y ys zs true t k (inr h) = step pre y ys (k h)
  from_later pre y ys zs false t k h = step pre y ys (k h)

  later_again : (all pre rest : List Name) (i : ℕ) → all ≡ pre ++ rest → i ≡ length pre → Among (later_names all i rest) x → Again pre rest x
  later_again all pre [] i e f h = absurd h
  later_again all pre (y ∷ ys) i e f h =
      from_later pre y ys (later_names all (suc i) ys) (is_among pre y) refl
      (later_again all (pre ++ y ∷ []) ys (suc i) (e ∙ split_at pre y ys) (ap suc f ∙ more_length pre y))
      (subst (λ z. Among z x) (later_one all i y ys (is_among pre y) (test_at all pre y ys i e f)) h)

  to_later : (pre : List Name) (y : Name) (ys zs : List Name) (t : Bool) → is_among pre y ≡ t → (Again (pre ++ y ∷ []) ys x → Among zs x) → (Among pre x × (y ≡ x)) ⊎ Again (pre ++ y ∷ []) ys x →
      Among (cond t (y ∷ zs) zs) x
  to_later pre y ys zs true t k (inl h) = inl h.1
  to_later pre y ys zs true t k (inr h) = inr (k h)
  to_later pre y ys zs false t k (inl h) =
      let m : false ≡ true = sym t ∙ of_among pre y (subst (λ z. Among pre z) (sym h.1) h.0) in absurd (cc)
  to_later pre y ys zs false t k (inr h) = k h

  again_later : (all pre rest : List Name) (i : ℕ) → all ≡ pre ++ rest → i ≡ length pre → Again pre rest x → Among (later_names all i rest) x
  again_later all pre [] i e f (inl h) = absurd h.1
  again_later all pre [] i e f (inr h) = absurd h
  again_later all pre (y ∷ ys) i e f h =
      subst (λ z. Among z x) (sym (later_one all i y ys (is_among pre y) (test_at all pre y ys i e f)))
      (to_later pre y ys (later_names all (suc i) ys) (is_among pre y) refl
      (again_later all (pre ++ y ∷ []) ys (suc i) (e ∙ split_at pre y ys) (ap suc f ∙ more_length pre y)) (step_back pre y ys h))

  none_before : (all : List Name) → Again [] all x → Repeats all x
  none_before all (inl h) = absurd h.0
  none_before all (inr h) = h

  pub later_repeats : (all : List Name) → Among (later_names all 0 all) x → Repeats all x
  later_repeats all h = none_before all (later_again all [] all 0 refl refl h)

  pub repeats_later : (all : List Name) → Repeats all x → Among (later_names all 0 all) x
  repeats_later all h = again_later all [] all 0 refl refl (inr h)

-- ---- the names at rest

names_held : (gs : List Signal) → map entry_name (map (held_entry [] (λ x. 0)) gs) ≡ map (λ (g : Signal). g.name) gs
names_held [] = refl
names_held (g ∷ gs) = ap (λ z. g.name ∷ z) (names_held gs)

entry_names : (g : Signal) (t : Bool) → map entry_name (cond t (held_entry [] (λ x. 0) g ∷ []) (entry_of g 0 ∷ map (held_entry [] (λ x. 0)) (words_from g 0 g.depth))) ≡ cond t (g.name ∷ []) (g.name ∷ map (λ (w : Signal). w.name) (words_from g 0 g.depth))
entry_names g true = refl
entry_names g false = ap (λ z. g.name ∷ z) (names_held (words_from g 0 g.depth))

all_names : (gs : List Signal) → map entry_name (flat_map (entries_of [] (λ x. 0)) gs) ≡ known gs
all_names [] = refl
all_names (g ∷ gs) =
    map_append entry_name (entries_of [] (λ x. 0) g) (flat_map (entries_of [] (λ x. 0)) gs)
    ∙ (λ i. entry_names g (nat_eq g.depth 0) i ++ all_names gs i)

pub rest_names : (f : Flat) → map entry_name (at_rest (flat_place f)) ≡ known f.signals
rest_names f = all_names f.signals

pub twice_by : (f : Flat) (x : Name) (rest : List Entry) (names : List Name) → rest ≡ at_rest (flat_place f) → names ≡ later_names (map entry_name rest) 0 (map entry_name rest) → Among names x →
    Repeats (known f.signals) x
twice_by f x rest names e h k = subst (λ z. Repeats z x) (ap (map entry_name) e ∙ rest_names f) (later_repeats x (map entry_name rest) (subst (λ z. Among z x) h k))

pub by_twice : (f : Flat) (x : Name) (rest : List Entry) (names : List Name) → rest ≡ at_rest (flat_place f) → names ≡ later_names (map entry_name rest) 0 (map entry_name rest) →
    Repeats (known f.signals) x → Among names x
by_twice f x rest names e h k = subst (λ z. Among z x) (sym h) (repeats_later x (map entry_name rest) (subst (λ z. Repeats z x) (sym (ap (map entry_name) e ∙ rest_names f)) k))

-- ---- signals and words that a loop passes

module _ (gs : List Signal) (i : ℕ) (g : Signal) (lt : i < length gs) (is : g ≡ get_or gs i g) where
  -- a name that is not the one at this place stands after it
  pub name_later : (names : List Name) (x : Name) → is_among names g.name ≡ false → Among names x → Among (map (λ (z : Signal). z.name) (drop i gs)) x → Among (map (λ (z : Signal). z.name) (drop (i + 1) gs)) x
  name_later names x fails k h = after (subst (λ z. Among (map (λ (z : Signal). z.name) z) x) (cut gs i g lt is) h)
    where
      after : (g.name ≡ x) ⊎ Among (map (λ (z : Signal). z.name) (drop (i + 1) gs)) x → Among (map (λ (z : Signal). z.name) (drop (i + 1) gs)) x
      after (inl e) = let m : false ≡ true = sym fails ∙ (ap (is_among names) e ∙ of_among names x k) in absurd (cc)
      after (inr m) = m

  words_at : (x : Name) → Among (flat_map words_of (drop i gs)) x → Among (words_of g) x ⊎ Among (flat_map words_of (drop (i + 1) gs)) x
  words_at x h = among_append (words_of g) (flat_map words_of (drop (i + 1) gs)) x (subst (λ z. Among (flat_map words_of z) x) (cut gs i g lt is) h)

  pub word_later : (ws : List Signal) (x : Name) → ws ≡ words_from g 0 g.depth → (Among (map (λ (z : Signal). z.name) ws) x → ⊥) → Among (flat_map words_of (drop i gs)) x → Among (flat_map words_of (drop (i + 1) gs)) x
  word_later ws x e fails h =
      elim (words_at x h) [ inl k ↦ absurd (fails (subst (λ z. Among (map (λ (w : Signal). w.name) z) x) (sym e) k)) | inr k ↦ k ]

  pub word_here : (ws : List Signal) (x : Name) → ws ≡ words_from g 0 g.depth → Among (map (λ (z : Signal). z.name) ws) x → Among (flat_map words_of gs) x
  word_here ws x e h = flat_among words_of gs g x (at gs i g lt is) (subst (λ z. Among (map (λ (w : Signal). w.name) z) x) e h)
    where
      at : (xs : List Signal) (j : ℕ) (y : Signal) → j < length xs → y ≡ get_or xs j y → Among xs y
      at [] j y less same = absurd (omega arith)
      at (z ∷ zs) zero y less same = inl (sym same)
      at (z ∷ zs) (suc j) y less same = inr (at zs j y (omega arith) same)

pub no_name_later : (gs : List Signal) (i : ℕ) (x : Name) → length gs ≤ i → Among (map (λ (z : Signal). z.name) (drop i gs)) x → ⊥
no_name_later gs i x le h = subst (λ z. Among (map (λ (w : Signal). w.name) z) x) (drop_of_length-le gs {i = i} le) h

pub no_word_later : (gs : List Signal) (i : ℕ) (x : Name) → length gs ≤ i → Among (flat_map words_of (drop i gs)) x → ⊥
no_word_later gs i x le h = subst (λ z. Among (flat_map words_of z) x) (drop_of_length-le gs {i = i} le) h
