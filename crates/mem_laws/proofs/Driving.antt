-- The left sides without memories drive what the left sides drive.
use Rattle.std.proofs.Common.{◌≡◌, ◌⊎◌, ℕ, suc, zero, ◌+◌, ◌<◌, ◌≤◌, ◌&&◌, Bool, true, false, nat_eq, nat_lt, List, [], ◌∷◌, sym, ap, ◌∙◌, refl, inl, inr, ⊎_elim, subst, arith}
use Rattle.std.specs.Prelude.{if◌then◌else◌, ℤ, pos, ◌-ℤ◌}
use Rattle.std.specs.List.{flat_map, range_with_len}
use Rattle.std.proofs.lemmas.Bool.{eqb-true, eqb-false, lt-ltb}
use Rattle.vlog_tree.specs.declared.expr.Expr.{Expr}
use Rattle.vlog_tree.specs.declared.stmt.Lval.{Lval, Row_of-Lval, end_of-Lval, more_of-Lval}
use Rattle.vlog_tree.specs.declared.stmt.Lval.TheVariants as l
use Rattle.vlog_tree.specs.declared.valuation.Entry.{Entry}
use Rattle.vlog_tree.specs.Valuation.{depth_of, word_name}
use Rattle.vlog_tree.specs.Value.{NamesOnly, operand_of, own_value, own_integer, part_low, part_width}
use Rattle.vlog_tree_runs.specs.declared.flat.Signal.{Signal}
use Rattle.vlog_tree_runs.specs.Places.{Name, Among, Place, read, holders}
use Rattle.vlog_tree_runs.specs.Blocks.{left_names, low_in, IsWithin, Drives, AnyDrives, Stores, AnyStores}
use Rattle.vlog_tree_runs.specs.Cycles.{DrivesBit, DrivesWord, DrivesFull}
use Rattle.elab_flat_laws.proofs.Lists.{bool_cases, among_append, append_left, append_right, among_map, map_among}
use Rattle.elab_flat_faults.specs.Constants.{at_rest}
use Rattle.elab_flat_faults.specs.Drivers.{parts_of, row_parts_of}
use Rattle.elab_flat_faults.specs.Declaring.{Repeats}
use Rattle.mem_laws.specs.Spread.{is_constant, is_fixed, named_words, spread}
use Rattle.mem_laws.specs.Laws.{over, IsIndexedLeft}
use Rattle.mem_laws.proofs.Constants.{nothing, constant_names, names_constant}
use Rattle.mem_laws.proofs.Reading.{fixed_constant, fixed_below}
use Rattle.mem_laws.proofs.Finding.{word, AreSpreadable, is_deep}
use Rattle.mem_laws.proofs.Names.{names, IsWord, holder_is, holder_plain, plain_held, word_held, word_apart, depth_plain, depth_deep, depth_is, low_same}
use Rattle.mem_laws.proofs.Parts.{IsPart}
use Rattle.mem_laws.proofs.Lefts.{constant_same, constant_before, word_lefts, part_lefts}

-- ---- a left side drives what its parts drive

mutual
  drives_parts : (p : Place) (left : Lval) (x : Name) (b : ℕ) → Drives p left x b → (q : Lval) × Among (parts_of left) q × Drives p q x b
  drives_parts p (l.Name y) x b h = (l.Name y, inl refl, h)
  drives_parts p (l.Select y a) x b h = (l.Select y a, inl refl, h)
  drives_parts p (l.Part y span a a') x b h = (l.Part y span a a', inl refl, h)
  drives_parts p (l.Concat' g row) x b h = any_parts p row x b h

  any_parts : {n : _} (p : Place) (row : Row_of-Lval n) (x : Name) (b : ℕ) → AnyDrives p row x b → (q : Lval) × Among (row_parts_of row) q × Drives p q x b
  any_parts p end_of-Lval x b h = absurd h
  any_parts p (more_of-Lval a rest) x b h =
      ⊎_elim (λ k. let r = drives_parts p a x b k in (r.0, append_left (parts_of a) (row_parts_of rest) r.0 r.1, r.2))
      (λ k. let r = any_parts p rest x b k in (r.0, append_right (parts_of a) (row_parts_of rest) r.0 r.1, r.2)) h

mutual
  parts_drive : (p : Place) (left : Lval) (x : Name) (b : ℕ) (q : Lval) → Among (parts_of left) q → Drives p q x b → Drives p left x b
  parts_drive p (l.Name y) x b q m h = ⊎_elim (λ e. subst (λ z. Drives p z x b) (sym e) h) (λ z. absurd z) m
  parts_drive p (l.Select y a) x b q m h = ⊎_elim (λ e. subst (λ z. Drives p z x b) (sym e) h) (λ z. absurd z) m
  parts_drive p (l.Part y span a a') x b q m h = ⊎_elim (λ e. subst (λ z. Drives p z x b) (sym e) h) (λ z. absurd z) m
  parts_drive p (l.Concat' g row) x b q m h = parts_any p row x b q m h

  parts_any : {n : _} (p : Place) (row : Row_of-Lval n) (x : Name) (b : ℕ) (q : Lval) → Among (row_parts_of row) q → Drives p q x b → AnyDrives p row x b
  parts_any p end_of-Lval x b q m h = absurd m
  parts_any p (more_of-Lval a rest) x b q m h =
      ⊎_elim (λ k. inl (parts_drive p a x b q k h)) (λ k. inr (parts_any p rest x b q k h)) (among_append (parts_of a) (row_parts_of rest) q m)

mutual
  stores_parts : (p : Place) (left : Lval) (x : Name) (j : ℕ) → Stores p left x j → (q : Lval) × Among (parts_of left) q × Stores p q x j
  stores_parts p (l.Name y) x j h = (l.Name y, inl refl, h)
  stores_parts p (l.Select y a) x j h = (l.Select y a, inl refl, h)
  stores_parts p (l.Part y span a a') x j h = (l.Part y span a a', inl refl, h)
  stores_parts p (l.Concat' g row) x j h = any_stores_parts p row x j h

  any_stores_parts : {n : _} (p : Place) (row : Row_of-Lval n) (x : Name) (j : ℕ) → AnyStores p row x j → (q : Lval) × Among (row_parts_of row) q × Stores p q x j
  any_stores_parts p end_of-Lval x j h = absurd h
  any_stores_parts p (more_of-Lval a rest) x j h =
      ⊎_elim (λ k. let r = stores_parts p a x j k in (r.0, append_left (parts_of a) (row_parts_of rest) r.0 r.1, r.2))
      (λ k. let r = any_stores_parts p rest x j k in (r.0, append_right (parts_of a) (row_parts_of rest) r.0 r.1, r.2)) h

mutual
  parts_store : (p : Place) (left : Lval) (x : Name) (j : ℕ) (q : Lval) → Among (parts_of left) q → Stores p q x j → Stores p left x j
  parts_store p (l.Name y) x j q m h = ⊎_elim (λ e. subst (λ z. Stores p z x j) (sym e) h) (λ z. absurd z) m
  parts_store p (l.Select y a) x j q m h = ⊎_elim (λ e. subst (λ z. Stores p z x j) (sym e) h) (λ z. absurd z) m
  parts_store p (l.Part y span a a') x j q m h = ⊎_elim (λ e. subst (λ z. Stores p z x j) (sym e) h) (λ z. absurd z) m
  parts_store p (l.Concat' g row) x j q m h = parts_any_store p row x j q m h

  parts_any_store : {n : _} (p : Place) (row : Row_of-Lval n) (x : Name) (j : ℕ) (q : Lval) → Among (row_parts_of row) q → Stores p q x j → AnyStores p row x j
  parts_any_store p end_of-Lval x j q m h = absurd m
  parts_any_store p (more_of-Lval a rest) x j q m h =
      ⊎_elim (λ k. inl (parts_store p a x j q k h)) (λ k. inr (parts_any_store p rest x j q k h)) (among_append (parts_of a) (row_parts_of rest) q m)

pub full_parts : (p : Place) (left : Lval) (x : Name) (b : ℕ) → DrivesFull p left x b → (q : Lval) × Among (parts_of left) q × DrivesFull p q x b
full_parts p left x b h =
    ⊎_elim
    (λ (k : DrivesBit p left x b). let r = drives_parts p left k.0.name b k.4 in (r.0, r.1, inl (k.0, k.1, k.2, k.3, r.2)))
    (λ (k : DrivesWord p left x). let r = stores_parts p left k.0.name k.3 k.5 in (r.0, r.1, inr (k.0, k.1, k.2, k.3, k.4, r.2, k.6)))
    h

pub parts_full : (p : Place) (left : Lval) (x : Name) (b : ℕ) (q : Lval) → Among (parts_of left) q → DrivesFull p q x b → DrivesFull p left x b
parts_full p left x b q m h =
    ⊎_elim
    (λ (k : DrivesBit p q x b). inl (k.0, k.1, k.2, k.3, parts_drive p left k.0.name b q m k.4))
    (λ (k : DrivesWord p q x). inr (k.0, k.1, k.2, k.3, k.4, parts_store p left k.0.name k.3 q m k.5, k.6))
    h

-- ---- the words that an index names

range_among : (k n j : ℕ) → k ≤ j → j < k + n → Among (range_with_len k n) j
range_among k zero j h l = absurd (omega arith)
range_among k (suc n) j h l =
    ⊎_elim (λ (t : nat_eq k j ≡ true). inl (eqb-true k j t)) (λ (t : nat_eq k j ≡ false). let z : k ≡ j → ⊥ = eqb-false k j t in inr (range_among (k + 1) n j (omega arith) (omega arith))) (bool_cases (nat_eq k j))

range_within : (k n j : ℕ) → Among (range_with_len k n) j → j < k + n
range_within k zero j h = absurd h
range_within k (suc n) j h = ⊎_elim (λ (e : k ≡ j). omega arith) (λ m. let z = range_within (k + 1) n j m in omega arith) h

-- a constant index names the word of its number, and any other one each word
named_by : (depth : ℕ) (a : Expr) (j : ℕ) → j < depth → (NamesOnly nothing a → own_value [] a ≡ j) → (t : Bool) → is_fixed depth a ≡ t → (u : Bool) → is_constant a ≡ u →
    Among (if t then own_value [] a ∷ [] else if u then [] else range_with_len 0 depth) j
named_by depth a j l h true t u k = inl (h (constant_names a (fixed_constant depth a t)))
named_by depth a j l h false t true k =
    let e : own_value [] a ≡ j = h (constant_names a k) in
    let z : is_fixed depth a ≡ true = (λ q. k q && nat_lt (e q) depth) ∙ lt-ltb j depth l in
    let no : ⊥ = cc in absurd no
named_by depth a j l h false t false k = range_among 0 depth j (omega arith) (omega arith)

named : (depth : ℕ) (a : Expr) (j : ℕ) → j < depth → (NamesOnly nothing a → own_value [] a ≡ j) → Among (named_words depth a) j
named depth a j l h = named_by depth a j l h (is_fixed depth a) refl (is_constant a) refl

named_back_by : (depth : ℕ) (a : Expr) (j : ℕ) → (t : Bool) → is_fixed depth a ≡ t → (u : Bool) → is_constant a ≡ u →
    Among (if t then own_value [] a ∷ [] else if u then [] else range_with_len 0 depth) j → (j < depth) × (NamesOnly nothing a → own_value [] a ≡ j)
named_back_by depth a j true t u k m =
    let l = fixed_below depth a t in
    ⊎_elim (λ (e : own_value [] a ≡ j). (omega (arith, l, e), λ d. e)) (λ z. absurd z) m
named_back_by depth a j false t true k m = absurd m
named_back_by depth a j false t false k m =
    (omega (arith, range_within 0 depth j m), λ d. let z : is_constant a ≡ true = names_constant a d in let no : ⊥ = cc in absurd no)

pub named_back : (depth : ℕ) (a : Expr) (j : ℕ) → Among (named_words depth a) j → (j < depth) × (NamesOnly nothing a → own_value [] a ≡ j)
named_back depth a j m = named_back_by depth a j (is_fixed depth a) refl (is_constant a) refl m

-- ---- parts

module _ (gs : List Signal) (s : AreSpreadable gs) (distinct : (y : Name) → Repeats (names gs) y → ⊥) where
  abbrev old : Place
  old = over gs

  abbrev new : Place
  new = over (flat_map holders gs)

  abbrev rest : List Entry
  rest = at_rest (over gs)

  low_of : (g : Signal) (y : Name) → Among gs g → nat_eq g.depth 0 ≡ true → y ≡ g.name → low_in new y ≡ low_in old y
  low_of g y m t e = subst (λ z. low_in new z ≡ low_in old z) (sym e) (low_same gs s distinct g m t)

  -- a memory's name has words
  deep_of : (g : Signal) (y : Name) → Among gs g → nat_eq g.depth 0 ≡ false → y ≡ g.name → depth_of rest (read y) ≡ 0 → ⊥
  deep_of g y m t e z = depth_deep gs s distinct (λ x. 0) g m t (ap (λ u. depth_of rest (read u)) (sym e) ∙ z)

  plain_of : (g : Signal) (y : Name) → Among gs g → nat_eq g.depth 0 ≡ true → y ≡ g.name → depth_of rest (read y) ≡ 0
  plain_of g y m t e = ap (λ u. depth_of rest (read u)) e ∙ depth_plain gs s distinct (λ x. 0) g m t

  -- what is asked of one part, and what it comes to
  abbrev To : Lval → List Lval → Type 0
  To q us = (x : Name) (b : ℕ) → DrivesFull old q x b → (u : Lval) × Among us u × DrivesFull new u x b

  abbrev From : Lval → List Lval → Type 0
  From q us = (u : Lval) → Among us u → (x : Name) (b : ℕ) → DrivesFull new u x b → DrivesFull old q x b

  -- a bit of a declared vector, of a part that stays alone
  bit_to : (q u : Lval) (x : Name) (b : ℕ) → ((g : Signal) → Among gs g → nat_eq g.depth 0 ≡ true → Drives old q g.name b → Drives new u g.name b) →
      DrivesBit old q x b → (z : Lval) × Among (u ∷ []) z × DrivesFull new z x b
  bit_to q u x b h k = (u, inl refl, inl (k.0, plain_held gs k.0 k.1 k.2, k.2, k.3, h k.0 k.1 k.2 k.4))

  no_new_word : {X : Type 0} (u : Lval) (x : Name) → DrivesWord new u x → X
  no_new_word u x k =
      let z : nat_eq k.0.depth 0 ≡ true = holder_plain gs k.0 k.1 in
      let no : true ≡ false = sym z ∙ k.2 in
      absurd (apart no)
    where
      apart : true ≡ false → ⊥
      apart e = cc

  one_from : (q u : Lval) → ((y : Name) → Among (left_names q) y → Among (names gs) y) →
      ((y : Name) (b : ℕ) → Drives new u y b → Among (left_names q) y) →
      ((g : Signal) (b : ℕ) → Among gs g → nat_eq g.depth 0 ≡ true → Drives new u g.name b → Drives old q g.name b) → From q (u ∷ [])
  one_from q u declared named h z m x b k =
      ⊎_elim (λ (e : u ≡ z). by (subst (λ y. DrivesFull new y x b) (sym e) k)) (λ n. absurd n) m
    where
      bit : (k : DrivesBit new u x b) → (Among gs k.0 × (nat_eq k.0.depth 0 ≡ true)) ⊎ IsWord gs k.0 → DrivesFull old q x b
      bit k c =
          ⊎_elim (λ (p : Among gs k.0 × (nat_eq k.0.depth 0 ≡ true)). inl (k.0, p.0, p.1, k.3, h k.0 b p.0 p.1 k.4))
          (λ (w : IsWord gs k.0). absurd (word_apart gs s distinct k.0.name k.0 (declared k.0.name (named k.0.name b k.4)) w refl)) c

      by : DrivesFull new u x b → DrivesFull old q x b
      by k = ⊎_elim (λ (i : DrivesBit new u x b). bit i (holder_is gs i.0 i.1)) (λ (w : DrivesWord new u x). no_new_word u x w) k

  -- names, parts and bits of signals that are no memories

  name_to : (y : Name) → depth_of rest (read y) ≡ 0 → To (l.Name y) (l.Name y ∷ [])
  name_to y z x b h =
      ⊎_elim (bit_to (l.Name y) (l.Name y) x b (λ g m t e. e)) (λ (k : DrivesWord old (l.Name y) x). absurd (deep_of k.0 y k.1 k.2 k.5 z)) h

  span_to : (y : Name) (span : _) (a a' : Expr) → depth_of rest (read y) ≡ 0 → To (l.Part y span a a') (l.Part y span (spread rest a) (spread rest a') ∷ [])
  span_to y span a a' z x b h =
      ⊎_elim
      (bit_to (l.Part y span a a') (l.Part y span (spread rest a) (spread rest a')) x b
      (λ g m t k. (
        k.0,
        λ c c'.
            let o = constant_before rest a c in
            let o' = constant_before rest a' c' in
            let i : operand_of [] a ≡ operand_of [] (spread rest a) = ap (λ u. operand_of [] u) (sym (constant_same rest a o)) in
            let j : operand_of [] a' ≡ operand_of [] (spread rest a') = ap (λ u. operand_of [] u) (sym (constant_same rest a' o')) in
            let n = sym (low_of g y m t k.0) in
            subst (λ (v : ℤ × ℤ × ℕ). IsWithin (part_low span v.0 v.1 -ℤ pos v.2) (part_width span v.0 v.1) b) (λ q. (own_integer (i q), own_integer (j q), n q)) (k.1 o o'),
      )))
      (λ (k : DrivesWord old (l.Part y span a a') x). absurd (deep_of k.0 y k.1 k.2 k.5 z)) h

  select_to : (y : Name) (a : Expr) → depth_of rest (read y) ≡ 0 → To (l.Select y a) (l.Select y (spread rest a) ∷ [])
  select_to y a z x b h =
      ⊎_elim
      (bit_to (l.Select y a) (l.Select y (spread rest a)) x b
      (λ g m t k. (
        k.0,
        λ c.
            let o = constant_before rest a c in
            (λ q. own_integer (operand_of [] (constant_same rest a o q)) -ℤ pos (low_of g y m t k.0 q)) ∙ k.1 o,
      )))
      (λ (k : DrivesWord old (l.Select y a) x). absurd (deep_of k.0 y k.1 k.2 k.5.0 z)) h

  name_from : (y : Name) → ((z : Name) → Among (y ∷ []) z → Among (names gs) z) → From (l.Name y) (l.Name y ∷ [])
  name_from y d = one_from (l.Name y) (l.Name y) d (λ z b k. inl k) (λ g b m t k. k)

  span_from : (y : Name) (span : _) (a a' : Expr) → ((z : Name) → Among (y ∷ []) z → Among (names gs) z) → From (l.Part y span a a') (l.Part y span (spread rest a) (spread rest a') ∷ [])
  span_from y span a a' d =
      one_from (l.Part y span a a') (l.Part y span (spread rest a) (spread rest a')) d (λ z b k. inl k.0)
      (λ g b m t k. (
        k.0,
        λ c c'.
            let e = constant_same rest a c in
            let e' = constant_same rest a' c' in
            let n = low_of g y m t k.0 in
            subst (λ (v : ℤ × ℤ × ℕ). IsWithin (part_low span v.0 v.1 -ℤ pos v.2) (part_width span v.0 v.1) b)
            (λ q. (own_integer (operand_of [] (e q)), own_integer (operand_of [] (e' q)), n q))
            (k.1 (subst (λ u. NamesOnly nothing u) (sym e) c) (subst (λ u. NamesOnly nothing u) (sym e') c')),
      ))

  select_from : (y : Name) (a : Expr) → ((z : Name) → Among (y ∷ []) z → Among (names gs) z) → From (l.Select y a) (l.Select y (spread rest a) ∷ [])
  select_from y a d =
      one_from (l.Select y a) (l.Select y (spread rest a)) d (λ z b k. inl k.0)
      (λ g b m t k. (
        k.0,
        λ c.
            let e = constant_same rest a c in
            sym (λ q. own_integer (operand_of [] (e q)) -ℤ pos (low_of g y m t k.0 q)) ∙ k.1 (subst (λ u. NamesOnly nothing u) (sym e) c),
      ))

  -- words of memories

  word_to : (y : Name) (a : Expr) → (depth_of rest (read y) ≡ 0 → ⊥) → To (l.Select y a) (word_lefts y (named_words (depth_of rest (read y)) a))
  word_to y a n x b h =
      ⊎_elim
      (λ (k : DrivesBit old (l.Select y a) x b). absurd (n (plain_of k.0 y k.1 k.2 k.4.0)))
      (λ (k : DrivesWord old (l.Select y a) x).
      let depth : depth_of rest (read y) ≡ k.0.depth = ap (λ u. depth_of rest (read u)) k.5.0 ∙ depth_is gs s distinct (λ z. 0) k.0 k.1 in
      let below : k.3 < depth_of rest (read y) = subst (λ u. k.3 < u) (sym depth) k.4 in
      let m = map_among (λ j. l.Name (word_name (read y) j).text) (named_words (depth_of rest (read y)) a) k.3 (named (depth_of rest (read y)) a k.3 below k.5.1) in
      let same : (word_name (read y) k.3).text ≡ (word_name (read k.0.name) k.3).text = ap (λ u. (word_name (read u) k.3).text) k.5.0 in
      (l.Name (word_name (read y) k.3).text, m, inl (word k.0 k.3, word_held gs k.0 k.3 k.1 k.2 k.4, refl, k.6, same)))
      h

  word_from : (y : Name) (a : Expr) → (depth_of rest (read y) ≡ 0 → ⊥) → From (l.Select y a) (word_lefts y (named_words (depth_of rest (read y)) a))
  word_from y a n u m x b h =
      let f = among_map (λ j. l.Name (word_name (read y) j).text) (named_words (depth_of rest (read y)) a) u m in
      let r = named_back (depth_of rest (read y)) a f.0 f.1 in
      let d = is_deep gs (λ z. 0) (read y) n in
      let same : y ≡ d.signal.name = ap (λ z. z.text) d.name in
      let below : f.0 < d.signal.depth = subst (λ z. f.0 < z) d.depth r.0 in
      let k = subst (λ z. DrivesFull new z x b) (sym f.2) h in
      ⊎_elim
      (λ (i : DrivesBit new (l.Name (word_name (read y) f.0).text) x b).
      inr (d.signal, d.among, d.deep, f.0, below, (same, r.1), i.3 ∙ (sym i.4 ∙ ap (λ z. (word_name (read z) f.0).text) same)))
      (λ (w : DrivesWord new (l.Name (word_name (read y) f.0).text) x). no_new_word (l.Name (word_name (read y) f.0).text) x w)
      k

  deep_or_plain_to : (y : Name) (a : Expr) (t : Bool) → nat_eq (depth_of rest (read y)) 0 ≡ t →
      To (l.Select y a) (if t then l.Select y (spread rest a) ∷ [] else word_lefts y (named_words (depth_of rest (read y)) a))
  deep_or_plain_to y a true t = select_to y a (eqb-true (depth_of rest (read y)) 0 t)
  deep_or_plain_to y a false t = word_to y a (eqb-false (depth_of rest (read y)) 0 t)

  deep_or_plain_from : (y : Name) (a : Expr) → ((z : Name) → Among (y ∷ []) z → Among (names gs) z) → (t : Bool) → nat_eq (depth_of rest (read y)) 0 ≡ t →
      From (l.Select y a) (if t then l.Select y (spread rest a) ∷ [] else word_lefts y (named_words (depth_of rest (read y)) a))
  deep_or_plain_from y a d true t = select_from y a d
  deep_or_plain_from y a d false t = word_from y a (eqb-false (depth_of rest (read y)) 0 t)

  pub part_to : (q : Lval) → IsPart q → IsIndexedLeft rest q → To q (part_lefts rest q)
  part_to (l.Name y) p h = name_to y h
  part_to (l.Select y a) p h = deep_or_plain_to y a (nat_eq (depth_of rest (read y)) 0) refl
  part_to (l.Part y span a a') p h = span_to y span a a' h.0
  part_to (l.Concat' g row) p h = absurd p

  pub part_from : (q : Lval) → IsPart q → ((y : Name) → Among (left_names q) y → Among (names gs) y) → From q (part_lefts rest q)
  part_from (l.Name y) p d = name_from y d
  part_from (l.Select y a) p d = deep_or_plain_from y a d (nat_eq (depth_of rest (read y)) 0) refl
  part_from (l.Part y span a a') p d = span_from y span a a' d
  part_from (l.Concat' g row) p d = absurd p
