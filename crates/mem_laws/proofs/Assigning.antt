-- What a statement without memories drives and assigns.
use Rattle.std.proofs.Common.{◌≡◌, ◌⊎◌, ℕ, ◌<◌, Bool, true, false, nat_eq, List, [], ◌∷◌, ◌++◌, sym, ap, ◌∙◌, refl, inl, inr, ⊎_elim, map, subst}
use Rattle.std.specs.Prelude.{if◌then◌else◌}
use Rattle.std.specs.List.{flat_map, list_any}
use Rattle.std.proofs.lemmas.Bool.{eqb-false}
use Rattle.vlog_tree.specs.declared.expr.Expr.{Expr}
use Rattle.vlog_tree.specs.declared.stmt.Lval.{Lval, Row_of-Lval, end_of-Lval, more_of-Lval}
use Rattle.vlog_tree.specs.declared.stmt.Lval.TheVariants as l
use Rattle.vlog_tree.specs.declared.valuation.Entry.{Entry}
use Rattle.vlog_tree.specs.Valuation.{depth_of, word_name}
use Rattle.vlog_tree_runs.specs.declared.flat.Signal.{Signal}
use Rattle.vlog_tree_runs.specs.Places.{Name, Among, Place, read, holders}
use Rattle.vlog_tree_runs.specs.Blocks.{left_names, row_names}
use Rattle.vlog_tree_runs.specs.Cycles.{DrivesFull}
use Rattle.elab_flat_laws.proofs.Lists.{among_append, append_left, append_right, among_flat, flat_among, among_map, map_among, map_append}
use Rattle.elab_flat_faults.specs.Constants.{at_rest}
use Rattle.elab_flat_faults.specs.Declaring.{Repeats}
use Rattle.elab_flat_faults.specs.Drivers.{parts_of, row_parts_of}
use Rattle.mem_laws.specs.Spread.{named_words, spread, spread_left, spread_lefts, is_memory_word}
use Rattle.mem_laws.specs.Laws.{over, IsIndexedLeft, AreIndexedLefts, IsPlainLeft, ArePlainLefts}
use Rattle.mem_laws.proofs.Finding.{AreSpreadable, is_deep}
use Rattle.mem_laws.proofs.Names.{names}
use Rattle.mem_laws.proofs.Parts.{IsPart}
use Rattle.mem_laws.proofs.Statements.{plain_from}
use Rattle.mem_laws.proofs.Lefts.{word_lefts, part_lefts, store_lefts, plain_lefts}
use Rattle.mem_laws.proofs.Driving.{full_parts, parts_full, part_to, part_from, named_back}

-- ---- parts

mutual
  parts_spread : (r : List Entry) (left : Lval) → parts_of (spread_left r left) ≡ map (spread_left r) (parts_of left)
  parts_spread r (l.Name x) = refl
  parts_spread r (l.Select x a) = refl
  parts_spread r (l.Part x span a b) = refl
  parts_spread r (l.Concat' h row) = row_parts_spread r row

  row_parts_spread : {n : _} (r : List Entry) (row : Row_of-Lval n) → row_parts_of (spread_lefts r row) ≡ map (spread_left r) (row_parts_of row)
  row_parts_spread r end_of-Lval = refl
  row_parts_spread r (more_of-Lval a rest) =
      (λ q. parts_spread r a q ++ row_parts_spread r rest q) ∙ sym (map_append (spread_left r) (parts_of a) (row_parts_of rest))

mutual
  names_spread : (r : List Entry) (left : Lval) → left_names (spread_left r left) ≡ left_names left
  names_spread r (l.Name x) = refl
  names_spread r (l.Select x a) = refl
  names_spread r (l.Part x span a b) = refl
  names_spread r (l.Concat' h row) = row_names_spread r row

  row_names_spread : {n : _} (r : List Entry) (row : Row_of-Lval n) → row_names (spread_lefts r row) ≡ row_names row
  row_names_spread r end_of-Lval = refl
  row_names_spread r (more_of-Lval a rest) = λ q. names_spread r a q ++ row_names_spread r rest q

-- what a part has from its left side
record IsPartOf (r : List Entry) (left q : Lval) : Type 0 where
  part : IsPart q
  indexed : IsIndexedLeft r left → IsIndexedLeft r q
  plain : IsPlainLeft r left → IsPlainLeft r q
  names : (y : Name) → Among (left_names q) y → Among (left_names left) y

one_part : (r : List Entry) (left q : Lval) → IsPart left → Among (left ∷ []) q → IsPartOf r left q
one_part r left q p h =
    ⊎_elim (λ (e : left ≡ q). subst (λ z. IsPartOf r left z) e (record { part = p; indexed = λ k. k; plain = λ k. k; names = λ y m. m })) (λ z. absurd z) h

-- what a part has from a row of left sides
record IsPartIn {n : _} (r : List Entry) (row : Row_of-Lval n) (q : Lval) : Type 0 where
  part : IsPart q
  indexed : AreIndexedLefts r row → IsIndexedLeft r q
  plain : ArePlainLefts r row → IsPlainLeft r q
  names : (y : Name) → Among (left_names q) y → Among (row_names row) y

mutual
  part_of_left : (r : List Entry) (left q : Lval) → Among (parts_of left) q → IsPartOf r left q
  part_of_left r (l.Name x) q h = one_part r (l.Name x) q tt h
  part_of_left r (l.Select x a) q h = one_part r (l.Select x a) q tt h
  part_of_left r (l.Part x span a b) q h = one_part r (l.Part x span a b) q tt h
  part_of_left r (l.Concat' g row) q h =
      let k = part_of_row r row q h in record { part = k.part; indexed = k.indexed; plain = k.plain; names = k.names }

  part_of_row : {n : _} (r : List Entry) (row : Row_of-Lval n) (q : Lval) → Among (row_parts_of row) q → IsPartIn r row q
  part_of_row r end_of-Lval q h = absurd h
  part_of_row r (more_of-Lval a rest) q h =
      ⊎_elim
      (λ m. let k = part_of_left r a q m in
      record { part = k.part; indexed = λ i. k.indexed i.0; plain = λ i. k.plain i.0; names = λ y j. append_left (left_names a) (row_names rest) y (k.names y j) })
      (λ m. let k = part_of_row r rest q m in
      record { part = k.part; indexed = λ i. k.indexed i.1; plain = λ i. k.plain i.1; names = λ y j. append_right (left_names a) (row_names rest) y (k.names y j) })
      (among_append (parts_of a) (row_parts_of rest) q h)

-- a name of a left side is one of a part
mutual
  part_named : (left : Lval) (y : Name) → Among (left_names left) y → (q : Lval) × Among (parts_of left) q × Among (left_names q) y
  part_named (l.Name x) y h = (l.Name x, inl refl, h)
  part_named (l.Select x a) y h = (l.Select x a, inl refl, h)
  part_named (l.Part x span a b) y h = (l.Part x span a b, inl refl, h)
  part_named (l.Concat' g row) y h = row_named row y h

  row_named : {n : _} (row : Row_of-Lval n) (y : Name) → Among (row_names row) y → (q : Lval) × Among (row_parts_of row) q × Among (left_names q) y
  row_named end_of-Lval y h = absurd h
  row_named (more_of-Lval a rest) y h =
      ⊎_elim (λ m. let k = part_named a y m in (k.0, append_left (parts_of a) (row_parts_of rest) k.0 k.1, k.2))
      (λ m. let k = row_named rest y m in (k.0, append_right (parts_of a) (row_parts_of rest) k.0 k.1, k.2)) (among_append (left_names a) (row_names rest) y h)

part_plain : (r : List Entry) (q : Lval) → IsPart q → IsPlainLeft r q → part_lefts r q ≡ spread_left r q ∷ []
part_plain r (l.Name x) p h = plain_lefts r (l.Name x) h
part_plain r (l.Select x a) p h = plain_lefts r (l.Select x a) h
part_plain r (l.Part x span a b) p h = plain_lefts r (l.Part x span a b) h
part_plain r (l.Concat' g row) p h = absurd p

-- ---- a word of a memory that a left side names

pub record NamesWord (gs : List Signal) (left : Lval) (y : Name) : Type 0 where
  pub memory : Signal
  pub among : Among gs memory
  pub deep : nat_eq memory.depth 0 ≡ false
  pub named : Among (left_names left) memory.name
  pub index : ℕ
  pub below : index < memory.depth
  pub is : (word_name (read memory.name) index).text ≡ y

module _ (gs : List Signal) (s : AreSpreadable gs) (distinct : (y : Name) → Repeats (names gs) y → ⊥) where
  abbrev old : Place
  old = over gs

  abbrev new : Place
  new = over (flat_map holders gs)

  abbrev rest : List Entry
  rest = at_rest (over gs)

  abbrev To : Lval → List Lval → Type 0
  To left us = (x : Name) (b : ℕ) → DrivesFull old left x b → (u : Lval) × Among us u × DrivesFull new u x b

  abbrev From : Lval → List Lval → Type 0
  From left us = (u : Lval) → Among us u → (x : Name) (b : ℕ) → DrivesFull new u x b → DrivesFull old left x b

  split_to : (left : Lval) → IsIndexedLeft rest left → (t : Bool) → list_any (is_memory_word rest) (parts_of left) ≡ t →
      To left (if t then flat_map (part_lefts rest) (parts_of left) else spread_left rest left ∷ [])
  split_to left i true t x b h =
      let k = full_parts old left x b h in
      let f = part_of_left rest left k.0 k.1 in
      let r = part_to gs s distinct k.0 f.part (f.indexed i) x b k.2 in
      (r.0, flat_among (part_lefts rest) (parts_of left) k.0 r.0 k.1 r.1, r.2)
  split_to left i false t x b h =
      let k = full_parts old left x b h in
      let f = part_of_left rest left k.0 k.1 in
      let r = part_to gs s distinct k.0 f.part (f.indexed i) x b k.2 in
      let m : Among (spread_left rest k.0 ∷ []) r.0 = subst (λ us. Among us r.0) (part_plain rest k.0 f.part (f.plain (plain_from rest left i t))) r.1 in
      let e : spread_left rest k.0 ≡ r.0 = ⊎_elim (λ z. z) (λ z. absurd z) m in
      let n : Among (parts_of (spread_left rest left)) (spread_left rest k.0) =
      subst (λ us. Among us (spread_left rest k.0)) (sym (parts_spread rest left)) (map_among (spread_left rest) (parts_of left) k.0 k.1) in
      (spread_left rest left, inl refl, parts_full new (spread_left rest left) x b (spread_left rest k.0) n (subst (λ u. DrivesFull new u x b) (sym e) r.2))

  split_from : (left : Lval) → IsIndexedLeft rest left → ((y : Name) → Among (left_names left) y → Among (names gs) y) → (t : Bool) → list_any (is_memory_word rest) (parts_of left) ≡ t →
      From left (if t then flat_map (part_lefts rest) (parts_of left) else spread_left rest left ∷ [])
  split_from left i d true t u m x b h =
      let k = among_flat (part_lefts rest) (parts_of left) u m in
      let f = part_of_left rest left k.0 k.1 in
      parts_full old left x b k.0 k.1 (part_from gs s distinct k.0 f.part (λ y n. d y (f.names y n)) u k.2 x b h)
  split_from left i d false t u m x b h =
      let e : spread_left rest left ≡ u = ⊎_elim (λ z. z) (λ z. absurd z) m in
      let k = full_parts new (spread_left rest left) x b (subst (λ z. DrivesFull new z x b) (sym e) h) in
      let q = among_map (spread_left rest) (parts_of left) k.0 (subst (λ us. Among us k.0) (parts_spread rest left) k.1) in
      let f = part_of_left rest left q.0 q.1 in
      let n : Among (part_lefts rest q.0) k.0 =
      subst (λ us. Among us k.0) (sym (part_plain rest q.0 f.part (f.plain (plain_from rest left i t)))) (inl q.2) in
      parts_full old left x b q.0 q.1 (part_from gs s distinct q.0 f.part (λ y o. d y (f.names y o)) k.0 n x b k.2)

  -- what a left side drives, the left sides of its store drive
  pub left_to : (left : Lval) → IsIndexedLeft rest left → To left (store_lefts rest left)
  left_to (l.Name y) i = part_to gs s distinct (l.Name y) tt i
  left_to (l.Select y a) i = part_to gs s distinct (l.Select y a) tt i
  left_to (l.Part y span a b) i = part_to gs s distinct (l.Part y span a b) tt i
  left_to (l.Concat' g row) i = split_to (l.Concat' g row) i (list_any (is_memory_word rest) (row_parts_of row)) refl

  pub left_from : (left : Lval) → IsIndexedLeft rest left → ((y : Name) → Among (left_names left) y → Among (names gs) y) → From left (store_lefts rest left)
  left_from (l.Name y) i d = part_from gs s distinct (l.Name y) tt d
  left_from (l.Select y a) i d = part_from gs s distinct (l.Select y a) tt d
  left_from (l.Part y span a b) i d = part_from gs s distinct (l.Part y span a b) tt d
  left_from (l.Concat' g row) i d = split_from (l.Concat' g row) i d (list_any (is_memory_word rest) (row_parts_of row)) refl

  -- ---- names

  abbrev lefts_names : List Lval → List Name
  lefts_names us = flat_map left_names us

  select_kept : (x y : Name) (a : Expr) → depth_of rest (read y) ≡ 0 → Among (x ∷ []) y → (t : Bool) → nat_eq (depth_of rest (read x)) 0 ≡ t →
      Among (lefts_names (if t then l.Select x (spread rest a) ∷ [] else word_lefts x (named_words (depth_of rest (read x)) a))) y
  select_kept x y a z m true t = m
  select_kept x y a z m false t =
      ⊎_elim (λ (e : x ≡ y). absurd (eqb-false (depth_of rest (read x)) 0 t (ap (λ u. depth_of rest (read u)) e ∙ z))) (λ n. absurd n) m

  part_kept : (q : Lval) (y : Name) → IsPart q → depth_of rest (read y) ≡ 0 → Among (left_names q) y → Among (lefts_names (part_lefts rest q)) y
  part_kept (l.Name x) y p z m = m
  part_kept (l.Select x a) y p z m = select_kept x y a z m (nat_eq (depth_of rest (read x)) 0) refl
  part_kept (l.Part x span a b) y p z m = m
  part_kept (l.Concat' g row) y p z m = absurd p

  split_kept : (left : Lval) (y : Name) → depth_of rest (read y) ≡ 0 → Among (left_names left) y → (t : Bool) →
      Among (lefts_names (if t then flat_map (part_lefts rest) (parts_of left) else spread_left rest left ∷ [])) y
  split_kept left y z m true =
      let k = part_named left y m in
      let r = among_flat left_names (part_lefts rest k.0) y (part_kept k.0 y (part_of_left rest left k.0 k.1).part z k.2) in
      flat_among left_names (flat_map (part_lefts rest) (parts_of left)) r.0 y (flat_among (part_lefts rest) (parts_of left) k.0 r.0 k.1 r.1) r.2
  split_kept left y z m false = append_left (left_names (spread_left rest left)) [] y (subst (λ ys. Among ys y) (sym (names_spread rest left)) m)

  -- a name that is no memory's stays
  pub name_kept : (left : Lval) (y : Name) → depth_of rest (read y) ≡ 0 → Among (left_names left) y → Among (lefts_names (store_lefts rest left)) y
  name_kept (l.Name x) y z m = m
  name_kept (l.Select x a) y z m = select_kept x y a z m (nat_eq (depth_of rest (read x)) 0) refl
  name_kept (l.Part x span a b) y z m = m
  name_kept (l.Concat' g row) y z m = split_kept (l.Concat' g row) y z m (list_any (is_memory_word rest) (row_parts_of row))

  -- a name is one of the left side, or a word's of a memory that it names
  select_of : (x y : Name) (a : Expr) → (t : Bool) → nat_eq (depth_of rest (read x)) 0 ≡ t →
      Among (lefts_names (if t then l.Select x (spread rest a) ∷ [] else word_lefts x (named_words (depth_of rest (read x)) a))) y →
      Among (x ∷ []) y ⊎ NamesWord gs (l.Select x a) y
  select_of x y a true t m = inl m
  select_of x y a false t m =
      let u = among_flat left_names (word_lefts x (named_words (depth_of rest (read x)) a)) y m in
      let f = among_map (λ j. l.Name (word_name (read x) j).text) (named_words (depth_of rest (read x)) a) u.0 u.1 in
      let r = named_back (depth_of rest (read x)) a f.0 f.1 in
      let d = is_deep gs (λ z. 0) (read x) (eqb-false (depth_of rest (read x)) 0 t) in
      let same : x ≡ d.signal.name = ap (λ z. z.text) d.name in
      let n : Among ((word_name (read x) f.0).text ∷ []) y = subst (λ z. Among (left_names z) y) (sym f.2) u.2 in
      inr (record {
        memory = d.signal;
        among = d.among;
        deep = d.deep;
        named = inl same;
        index = f.0;
        below = subst (λ z. f.0 < z) d.depth r.0;
        is = ap (λ z. (word_name (read z) f.0).text) (sym same) ∙ ⊎_elim (λ (e : (word_name (read x) f.0).text ≡ y). e) (λ z. absurd z) n;
      })

  part_of_name : (q : Lval) (y : Name) → IsPart q → Among (lefts_names (part_lefts rest q)) y → Among (left_names q) y ⊎ NamesWord gs q y
  part_of_name (l.Name x) y p m = inl m
  part_of_name (l.Select x a) y p m = select_of x y a (nat_eq (depth_of rest (read x)) 0) refl m
  part_of_name (l.Part x span a b) y p m = inl m
  part_of_name (l.Concat' g row) y p m = absurd p

  split_of : (left : Lval) (y : Name) → (t : Bool) → Among (lefts_names (if t then flat_map (part_lefts rest) (parts_of left) else spread_left rest left ∷ [])) y →
      Among (left_names left) y ⊎ NamesWord gs left y
  split_of left y true m =
      let u = among_flat left_names (flat_map (part_lefts rest) (parts_of left)) y m in
      let k = among_flat (part_lefts rest) (parts_of left) u.0 u.1 in
      let f = part_of_left rest left k.0 k.1 in
      ⊎_elim (λ n. inl (f.names y n))
      (λ (w : NamesWord gs k.0 y). inr (record { memory = w.memory; among = w.among; deep = w.deep; named = f.names w.memory.name w.named; index = w.index; below = w.below; is = w.is }))
      (part_of_name k.0 y f.part (flat_among left_names (part_lefts rest k.0) u.0 y k.2 u.2))
  split_of left y false m =
      ⊎_elim (λ n. inl (subst (λ ys. Among ys y) (names_spread rest left) n)) (λ z. absurd z) (among_append (left_names (spread_left rest left)) [] y m)

  pub name_of : (left : Lval) (y : Name) → Among (lefts_names (store_lefts rest left)) y → Among (left_names left) y ⊎ NamesWord gs left y
  name_of (l.Name x) y m = inl m
  name_of (l.Select x a) y m = select_of x y a (nat_eq (depth_of rest (read x)) 0) refl m
  name_of (l.Part x span a b) y m = inl m
  name_of (l.Concat' g row) y m = split_of (l.Concat' g row) y (list_any (is_memory_word rest) (row_parts_of row)) m
