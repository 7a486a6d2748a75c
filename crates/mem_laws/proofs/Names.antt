-- The signals of a module and of the one without memories, by their names.
use Rattle.std.proofs.Common.{◌≡◌, ◌⊎◌, ℕ, suc, zero, ◌+◌, ◌<◌, Bool, true, false, nat_eq, List, [], ◌∷◌, ◌++◌, Option, Some, sym, ap, ◌∙◌, refl, inl, inr, ⊎_elim, map, subst, arith}
use Rattle.std.specs.Prelude.{if◌then◌else◌, unwrap_or}
use Rattle.std.specs.List.{flat_map}
use Rattle.std.specs.Option.{option_map}
use Rattle.std.specs.Str.{bytes_eq}
use Rattle.std.proofs.lemmas.Bool.{eqb-true, eqb-false}
use Rattle.std.proofs.lemmas.Slice.Eq.{bytes_eq-Decides}
use Rattle.vlog_tree.specs.declared.valuation.Entry.{Entry}
use Rattle.vlog_tree.specs.Valuation.{entry_at, depth_of, word_name}
use Rattle.vlog_tree_runs.specs.declared.flat.Signal.{Signal}
use Rattle.vlog_tree_runs.specs.Places.{Name, Cycle, Among, read, words_from, holders, entry_of, held_entry, entries_of}
use Rattle.vlog_tree_runs.specs.Blocks.{signal_at, low_in}
use Rattle.vlog_tree_runs.specs.Contents.{is_among}
use Rattle.elab_flat_laws.specs.Uses.{names_of, known}
use Rattle.elab_flat_laws.proofs.Lists.{bool_cases, among_append, append_left, append_right, among_flat, flat_among, map_among, map_append}
use Rattle.elab_flat_laws.proofs.Entries.{known_is}
use Rattle.elab_flat_faults.specs.Declaring.{Repeats, words_of}
use Rattle.mem_laws.specs.Laws.{over}
use Rattle.mem_laws.proofs.Finding.{entries, word, words_at, word_named, once_found, AreSpreadable}

-- ---- names that stand twice in a list

abbrev pub names : List Signal → List Name
names gs = map (λ (g : Signal). g.name) gs

repeats_among : (xs : List Name) (y : Name) → Repeats xs y → Among xs y
repeats_among [] y h = absurd h
repeats_among (x ∷ xs) y h = ⊎_elim (λ (k : (x ≡ y) × Among xs y). inl k.0) (λ k. inr (repeats_among xs y k)) h

repeats_right : (xs ys : List Name) (y : Name) → Repeats ys y → Repeats (xs ++ ys) y
repeats_right [] ys y h = h
repeats_right (x ∷ xs) ys y h = inr (repeats_right xs ys y h)

repeats_left : (xs ys : List Name) (y : Name) → Repeats xs y → Repeats (xs ++ ys) y
repeats_left [] ys y h = absurd h
repeats_left (x ∷ xs) ys y h =
    ⊎_elim (λ (k : (x ≡ y) × Among xs y). inl (k.0, append_left xs ys y k.1)) (λ k. inr (repeats_left xs ys y k)) h

repeats_across : (xs ys : List Name) (y : Name) → Among xs y → Among ys y → Repeats (xs ++ ys) y
repeats_across [] ys y h k = absurd h
repeats_across (x ∷ xs) ys y h k = ⊎_elim (λ (e : x ≡ y). inl (e, append_right xs ys y k)) (λ m. inr (repeats_across xs ys y m k)) h

-- in one of two lists, or once in each
abbrev RepeatsIn : List Name → List Name → Name → Type 0
RepeatsIn xs ys y = Repeats xs y ⊎ ((Among xs y × Among ys y) ⊎ Repeats ys y)

repeats_in : (xs ys : List Name) (y : Name) → Repeats (xs ++ ys) y → RepeatsIn xs ys y
repeats_in [] ys y h = inr (inr h)
repeats_in (x ∷ xs) ys y h =
    ⊎_elim
    (λ (k : (x ≡ y) × Among (xs ++ ys) y). ⊎_elim (λ (m : Among xs y). inl (inl (k.0, m))) (λ (m : Among ys y). inr (inl (inl k.0, m))) (among_append xs ys y k.1))
    (λ k. ⊎_elim (λ (m : Repeats xs y). inl (inr m)) (λ m. ⊎_elim (λ (n : Among xs y × Among ys y). inr (inl (inr n.0, n.1))) (λ (n : Repeats ys y). inr (inr n)) m) (repeats_in xs ys y k))
    h

-- the test of a list
pub is_among_true : (xs : List Name) (y : Name) → is_among xs y ≡ true → Among xs y
is_among_true [] y h = cc
is_among_true (x ∷ xs) y h =
    ⊎_elim (λ (t : bytes_eq x y ≡ true). inl ((bytes_eq-Decides x y).0 t))
    (λ (t : bytes_eq x y ≡ false). inr (is_among_true xs y (rw t at h))) (bool_cases (bytes_eq x y))

pub among_is_true : (xs : List Name) (y : Name) → Among xs y → is_among xs y ≡ true
among_is_true [] y h = absurd h
among_is_true (x ∷ xs) y h =
    ⊎_elim (λ (t : bytes_eq x y ≡ true). rw t refl)
    (λ (t : bytes_eq x y ≡ false).
    rw t (⊎_elim (λ (e : x ≡ y). let k : bytes_eq x y ≡ true = (bytes_eq-Decides x y).1 e in let no : ⊥ = cc in absurd no) (λ m. among_is_true xs y m) h))
    (bool_cases (bytes_eq x y))

-- ---- what is known of a signal

-- the names of a signal are its own and, for a memory, those of its words
names_are : (g : Signal) (t : Bool) → nat_eq g.depth 0 ≡ t → (y : Name) → Among (names_of g) y → (g.name ≡ y) ⊎ Among (words_of g) y
names_are g true t y h = let z : Among (g.name ∷ []) y = rw t at h in ⊎_elim (λ e. inl e) (λ n. absurd n) z
names_are g false t y h = let z : Among (g.name ∷ words_of g) y = rw t at h in z

names_repeat : (g : Signal) (t : Bool) → nat_eq g.depth 0 ≡ t → (y : Name) → Repeats (names_of g) y → Among (words_of g) y
names_repeat g true t y h = let z : Repeats (g.name ∷ []) y = rw t at h in ⊎_elim (λ (k : (g.name ≡ y) × ⊥). absurd k.1) (λ n. absurd n) z
names_repeat g false t y h =
    let z : Repeats (g.name ∷ words_of g) y = rw t at h in
    ⊎_elim (λ (k : (g.name ≡ y) × Among (words_of g) y). k.1) (λ n. repeats_among (words_of g) y n) z

own_name : (g : Signal) (t : Bool) → nat_eq g.depth 0 ≡ t → Among (names_of g) g.name
own_name g true t = rw t (inl refl)
own_name g false t = rw t (inl refl)

-- a word's name stands behind the one of its memory
word_behind : (g : Signal) (t : Bool) → nat_eq g.depth 0 ≡ t → (y : Name) → Among (words_of g) y → names_of g ≡ g.name ∷ words_of g
word_behind g true t y h =
    let z : g.depth ≡ 0 = eqb-true g.depth 0 t in
    let n : Among (names (words_from g 0 0)) y = subst (λ n. Among (names (words_from g 0 n)) y) z h in
    absurd n
word_behind g false t y h = ap (λ (b : Bool). if b then g.name ∷ [] else g.name ∷ words_of g) t

known_are : (gs : List Signal) (y : Name) → Among (known gs) y → Among (flat_map words_of gs) y ⊎ Among (names gs) y
known_are [] y h = absurd h
known_are (g ∷ gs) y h =
    ⊎_elim
    (λ m. ⊎_elim (λ (e : g.name ≡ y). inr (inl e)) (λ n. inl (append_left (words_of g) (flat_map words_of gs) y n)) (names_are g (nat_eq g.depth 0) refl y m))
    (λ m. ⊎_elim (λ n. inl (append_right (words_of g) (flat_map words_of gs) y n)) (λ n. inr (inr n)) (known_are gs y m))
    (among_append (names_of g) (known gs) y h)

known_repeat : (gs : List Signal) (y : Name) → Repeats (known gs) y → Among (flat_map words_of gs) y ⊎ Repeats (names gs) y
known_repeat [] y h = absurd h
known_repeat (g ∷ gs) y h =
    ⊎_elim
    (λ (m : Repeats (names_of g) y). inl (append_left (words_of g) (flat_map words_of gs) y (names_repeat g (nat_eq g.depth 0) refl y m)))
    (λ m. ⊎_elim
    (λ (n : Among (names_of g) y × Among (known gs) y).
    ⊎_elim
    (λ (e : g.name ≡ y). ⊎_elim (λ k. inl (append_right (words_of g) (flat_map words_of gs) y k)) (λ k. inr (inl (e, k))) (known_are gs y n.1))
    (λ k. inl (append_left (words_of g) (flat_map words_of gs) y k))
    (names_are g (nat_eq g.depth 0) refl y n.0))
    (λ (n : Repeats (known gs) y). ⊎_elim (λ k. inl (append_right (words_of g) (flat_map words_of gs) y k)) (λ k. inr (inr k)) (known_repeat gs y n))
    m)
    (repeats_in (names_of g) (known gs) y h)

name_known : (gs : List Signal) (y : Name) → Among (names gs) y → Among (known gs) y
name_known [] y h = absurd h
name_known (g ∷ gs) y h =
    ⊎_elim (λ (e : g.name ≡ y). append_left (names_of g) (known gs) y (subst (λ z. Among (names_of g) z) e (own_name g (nat_eq g.depth 0) refl)))
    (λ m. append_right (names_of g) (known gs) y (name_known gs y m)) h

word_known : (gs : List Signal) (y : Name) → Among (flat_map words_of gs) y → Among (known gs) y
word_known [] y h = absurd h
word_known (g ∷ gs) y h =
    ⊎_elim (λ m. append_left (names_of g) (known gs) y (subst (λ zs. Among zs y) (sym (word_behind g (nat_eq g.depth 0) refl y m)) (inr m)))
    (λ m. append_right (names_of g) (known gs) y (word_known gs y m)) (among_append (words_of g) (flat_map words_of gs) y h)

-- the name of a signal and of a word stands twice
both_known : (gs : List Signal) (y : Name) → Among (names gs) y → Among (flat_map words_of gs) y → Repeats (known gs) y
both_known [] y h k = absurd h
both_known (g ∷ gs) y h k =
    ⊎_elim
    (λ (e : g.name ≡ y).
    ⊎_elim
    (λ m. repeats_left (names_of g) (known gs) y (subst (λ zs. Repeats zs y) (sym (word_behind g (nat_eq g.depth 0) refl y m)) (inl (e, m))))
    (λ m. repeats_across (names_of g) (known gs) y (subst (λ z. Among (names_of g) z) e (own_name g (nat_eq g.depth 0) refl)) (word_known gs y m))
    (among_append (words_of g) (flat_map words_of gs) y k))
    (λ (n : Among (names gs) y).
    ⊎_elim
    (λ m. repeats_across (names_of g) (known gs) y (subst (λ zs. Among zs y) (sym (word_behind g (nat_eq g.depth 0) refl y m)) (inr m)) (name_known gs y n))
    (λ m. repeats_right (names_of g) (known gs) y (both_known gs y n m))
    (among_append (words_of g) (flat_map words_of gs) y k))
    h

-- the names of holders are known
holder_names : (g : Signal) (t : Bool) → nat_eq g.depth 0 ≡ t → (y : Name) → (Among (names (holders g)) y → Among (names_of g) y) × (Repeats (names (holders g)) y → Repeats (names_of g) y)
holder_names g true t y =
    let e : holders g ≡ g ∷ [] = ap (λ (b : Bool). if b then g ∷ [] else words_from g 0 g.depth) t in
    let k : names_of g ≡ g.name ∷ [] = ap (λ (b : Bool). if b then g.name ∷ [] else g.name ∷ words_of g) t in
    let same : names (holders g) ≡ names_of g = ap names e ∙ sym k in
    (λ h. subst (λ zs. Among zs y) same h, λ h. subst (λ zs. Repeats zs y) same h)
holder_names g false t y =
    let e : holders g ≡ words_from g 0 g.depth = ap (λ (b : Bool). if b then g ∷ [] else words_from g 0 g.depth) t in
    let k : names_of g ≡ g.name ∷ words_of g = ap (λ (b : Bool). if b then g.name ∷ [] else g.name ∷ words_of g) t in (
      λ h. subst (λ zs. Among zs y) (sym k) (inr (subst (λ zs. Among (names zs) y) e h)),
      λ h. subst (λ zs. Repeats zs y) (sym k) (inr (subst (λ zs. Repeats (names zs) y) e h)),
    )

holders_known : (gs : List Signal) (y : Name) → Among (names (flat_map holders gs)) y → Among (known gs) y
holders_known [] y h = absurd h
holders_known (g ∷ gs) y h =
    let k = among_append (names (holders g)) (names (flat_map holders gs)) y
    (subst (λ zs. Among zs y) (map_append (λ (u : Signal). u.name) (holders g) (flat_map holders gs)) h) in
    ⊎_elim (λ m. append_left (names_of g) (known gs) y ((holder_names g (nat_eq g.depth 0) refl y).0 m))
    (λ m. append_right (names_of g) (known gs) y (holders_known gs y m)) k

pub holders_repeat : (gs : List Signal) (y : Name) → Repeats (names (flat_map holders gs)) y → Repeats (known gs) y
holders_repeat [] y h = absurd h
holders_repeat (g ∷ gs) y h =
    let k = repeats_in (names (holders g)) (names (flat_map holders gs)) y
    (subst (λ zs. Repeats zs y) (map_append (λ (u : Signal). u.name) (holders g) (flat_map holders gs)) h) in
    ⊎_elim (λ m. repeats_left (names_of g) (known gs) y ((holder_names g (nat_eq g.depth 0) refl y).1 m))
    (λ m. ⊎_elim
    (λ (n : Among (names (holders g)) y × Among (names (flat_map holders gs)) y).
    repeats_across (names_of g) (known gs) y ((holder_names g (nat_eq g.depth 0) refl y).0 n.0) (holders_known gs y n.1))
    (λ n. repeats_right (names_of g) (known gs) y (holders_repeat gs y n)) m) k

-- a signal whose name stands once is the one that is found
found_once : (gs : List Signal) (g : Signal) → Among gs g → (Repeats (names gs) g.name → ⊥) → signal_at gs g.name ≡ Some g
found_once [] g h n = absurd h
found_once (k ∷ gs) g h n =
    ⊎_elim
    (λ (e : k ≡ g).
    let b : bytes_eq k.name g.name ≡ true = (bytes_eq-Decides k.name g.name).1 (ap (λ (u : Signal). u.name) e) in
    ap (λ (t : Bool). if t then Some k else signal_at gs g.name) b ∙ ap (λ (u : Signal). Some u) e)
    (λ (m : Among gs g).
    ⊎_elim
    (λ (t : bytes_eq k.name g.name ≡ true). absurd (n (inl ((bytes_eq-Decides k.name g.name).0 t, map_among (λ (u : Signal). u.name) gs g m))))
    (λ (t : bytes_eq k.name g.name ≡ false). ap (λ (b : Bool). if b then Some k else signal_at gs g.name) t ∙ found_once gs g m (λ r. n (inr r)))
    (bool_cases (bytes_eq k.name g.name)))
    h

-- ---- the signals of both modules

-- a word of a memory
pub record IsWord (gs : List Signal) (k : Signal) : Type 0 where
  pub memory : Signal
  pub among : Among gs memory
  pub deep : nat_eq memory.depth 0 ≡ false
  pub index : ℕ
  pub below : index < memory.depth
  pub is : word memory index ≡ k

pub words_numbered : (g : Signal) (i n : ℕ) (k : Signal) → Among (words_from g i n) k → (j : ℕ) × (j < i + n) × (word g j ≡ k)
words_numbered g i zero k h = absurd h
words_numbered g i (suc n) k h =
    ⊎_elim (λ (e : word g i ≡ k). (i, omega arith, e))
    (λ m. let r = words_numbered g (suc i) n k m in (r.0, omega (arith, r.1), r.2)) h

holder_by : (gs : List Signal) (g k : Signal) → Among gs g → (t : Bool) → nat_eq g.depth 0 ≡ t → Among (if t then g ∷ [] else words_from g 0 g.depth) k →
    (Among gs k × (nat_eq k.depth 0 ≡ true)) ⊎ IsWord gs k
holder_by gs g k m true t h =
    ⊎_elim (λ (e : g ≡ k). inl (subst (λ u. Among gs u) e m, subst (λ (u : Signal). nat_eq u.depth 0 ≡ true) e t)) (λ z. absurd z) h
holder_by gs g k m false t h =
    let r = words_numbered g 0 g.depth k h in
    inr (record { memory = g; among = m; deep = t; index = r.0; below = omega (arith, r.1); is = r.2 })

-- a signal of the module without memories is one of the module that is no memory, or a word
pub holder_is : (gs : List Signal) (k : Signal) → Among (flat_map holders gs) k → (Among gs k × (nat_eq k.depth 0 ≡ true)) ⊎ IsWord gs k
holder_is gs k h = let f = among_flat holders gs k h in holder_by gs f.0 k f.1 (nat_eq f.0.depth 0) refl f.2

pub holder_plain : (gs : List Signal) (k : Signal) → Among (flat_map holders gs) k → nat_eq k.depth 0 ≡ true
holder_plain gs k h =
    ⊎_elim (λ (p : Among gs k × (nat_eq k.depth 0 ≡ true)). p.1) (λ (w : IsWord gs k). ap (λ (u : Signal). nat_eq u.depth 0) (sym w.is)) (holder_is gs k h)

pub plain_held : (gs : List Signal) (g : Signal) → Among gs g → nat_eq g.depth 0 ≡ true → Among (flat_map holders gs) g
plain_held gs g m t = flat_among holders gs g g m (subst (λ (b : Bool). Among (if b then g ∷ [] else words_from g 0 g.depth) g) (sym t) (inl refl))

pub word_held : (gs : List Signal) (g : Signal) (j : ℕ) → Among gs g → nat_eq g.depth 0 ≡ false → j < g.depth → Among (flat_map holders gs) (word g j)
word_held gs g j m t l =
    let z : 0 + j ≡ j = omega arith in
    flat_among holders gs g (word g j) m
    (subst (λ (b : Bool). Among (if b then g ∷ [] else words_from g 0 g.depth) (word g j)) (sym t) (subst (λ i. Among (words_from g 0 g.depth) (word g i)) z (words_at g 0 j g.depth l)))

module _ (gs : List Signal) (s : AreSpreadable gs) (distinct : (y : Name) → Repeats (names gs) y → ⊥) where
  -- nothing that is known stands twice
  pub known_once : (y : Name) → Repeats (known gs) y → ⊥
  known_once y h = ⊎_elim (λ w. s.once y w h) (λ n. distinct y n) (known_repeat gs y h)

  -- a signal's name isn't a word's
  pub no_word : (y : Name) → Among (names gs) y → Among (flat_map words_of gs) y → ⊥
  no_word y h k = known_once y (both_known gs y h k)

  pub word_apart : (y : Name) (k : Signal) → Among (names gs) y → IsWord gs k → k.name ≡ y → ⊥
  word_apart y k h w e =
      let n : (word_name (read w.memory.name) w.index).text ≡ y = ap (λ (u : Signal). u.name) w.is ∙ e in
      no_word y h (subst (λ z. Among (flat_map words_of gs) z) n (word_named gs w.memory w.index w.among w.below))

  entry_found : (c : Cycle) (e : Entry) → Among (entries gs c) e → e.offset ≡ 0 → entry_at (entries gs c) e.name 0 ≡ Some e
  entry_found c e m z = once_found (entries gs c) e m z (λ r. known_once e.name (subst (λ ys. Repeats ys e.name) (known_is [] c gs) r))

  -- a signal has the depth that it is declared with
  pub depth_is : (c : Cycle) (g : Signal) → Among gs g → depth_of (entries gs c) (read g.name) ≡ g.depth
  depth_is c g m = by (nat_eq g.depth 0) refl
    where
      entry : Entry → (t : Bool) → nat_eq g.depth 0 ≡ t → Among (if t then held_entry [] c g ∷ [] else entry_of g 0 ∷ map (held_entry [] c) (words_from g 0 g.depth)) (if t then held_entry [] c g else entry_of g 0)
      entry e true t = inl refl
      entry e false t = inl refl

      among : (t : Bool) → nat_eq g.depth 0 ≡ t → Among (entries gs c) (if t then held_entry [] c g else entry_of g 0)
      among t h =
          flat_among (entries_of [] c) gs g (if t then held_entry [] c g else entry_of g 0) m
          (subst (λ (b : Bool). Among (if b then held_entry [] c g ∷ [] else entry_of g 0 ∷ map (held_entry [] c) (words_from g 0 g.depth)) (if t then held_entry [] c g else entry_of g 0)) (sym h) (entry (entry_of g 0) t h))

      by : (t : Bool) → nat_eq g.depth 0 ≡ t → depth_of (entries gs c) (read g.name) ≡ g.depth
      by true t = ap (λ (o : Option Entry). unwrap_or (option_map (λ (e : Entry). e.depth) o) 0) (entry_found c (held_entry [] c g) (among true t) refl)
      by false t = ap (λ (o : Option Entry). unwrap_or (option_map (λ (e : Entry). e.depth) o) 0) (entry_found c (entry_of g 0) (among false t) refl)

  pub depth_plain : (c : Cycle) (g : Signal) → Among gs g → nat_eq g.depth 0 ≡ true → depth_of (entries gs c) (read g.name) ≡ 0
  depth_plain c g m t = depth_is c g m ∙ eqb-true g.depth 0 t

  pub depth_deep : (c : Cycle) (g : Signal) → Among gs g → nat_eq g.depth 0 ≡ false → depth_of (entries gs c) (read g.name) ≡ 0 → ⊥
  depth_deep c g m t z = eqb-false g.depth 0 t (sym (depth_is c g m) ∙ z)

  -- a signal that is no memory has its lowest bit in both modules
  pub low_same : (g : Signal) → Among gs g → nat_eq g.depth 0 ≡ true → low_in (over (flat_map holders gs)) g.name ≡ low_in (over gs) g.name
  low_same g m t =
      let here : signal_at gs g.name ≡ Some g = found_once gs g m (distinct g.name) in
      let there : signal_at (flat_map holders gs) g.name ≡ Some g =
      found_once (flat_map holders gs) g (plain_held gs g m t) (λ r. known_once g.name (holders_repeat gs g.name r)) in
      ap (λ (o : Option Signal). unwrap_or (option_map (λ (u : Signal). u.low) o) 0) (there ∙ sym here)
