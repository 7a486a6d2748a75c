-- What names stand for in a module, and in the one without memories.
use Rattle.std.proofs.Common.{◌≡◌, ◌⊎◌, ℕ, suc, zero, ◌+◌, ◌<◌, ◌≤◌, ◌&&◌, Bool, true, false, nat_eq, List, [], ◌∷◌, ◌++◌, Option, Some, None, cond, sym, ap, ◌∙◌, refl, inl, inr, ⊎_elim, map, filter, subst, arith}
use Rattle.std.specs.Prelude.{if◌then◌else◌, unwrap_or}
use Rattle.std.specs.List.{flat_map}
use Rattle.std.specs.Option.{option_map}
use Rattle.std.specs.Str.{bytes_eq}
use Rattle.std.proofs.lemmas.Bool.{eqb-true, eqb-false, eq-eqb}
use Rattle.std.proofs.lemmas.Slice.Eq.{bytes_eq-Decides}
use Rattle.vlog_tree.specs.declared.expr.Constant.{Constant}
use Rattle.vlog_tree.specs.declared.expr.Name.{Name as Read}
use Rattle.vlog_tree.specs.declared.valuation.Entry.{Entry}
use Rattle.vlog_tree.specs.Valuation.{IsLength, entry_at, meant, meaning_of, named, depth_of, word_name}
use Rattle.vlog_tree_runs.specs.declared.flat.Signal.{Signal}
use Rattle.vlog_tree_runs.specs.Places.{Name, Cycle, Among, read, words_from, holders, entry_of, held_entry, entries_of}
use Rattle.elab_flat_laws.specs.Uses.{known}
use Rattle.elab_flat_laws.proofs.Lists.{bool_cases, flat_append, map_append, among_flat, flat_among, map_among}
use Rattle.elab_flat_laws.proofs.Entries.{known_is}
use Rattle.elab_flat_faults.specs.Constants.{at_rest}
use Rattle.elab_flat_faults.specs.Declaring.{Repeats, words_of}
use Rattle.mem_laws.specs.Laws.{over, SpreadsInto}

-- ---- entries without their values

abbrev shape : Entry → Entry
shape e = record e { value = 0 }

abbrev fits : Entry → Name → ℕ → Bool
fits e x j = nat_eq e.offset j && bytes_eq e.name x

shape_found : (es : List Entry) (x : Name) (j : ℕ) → option_map shape (entry_at es x j) ≡ entry_at (map shape es) x j
shape_found [] x j = refl
shape_found (e ∷ es) x j = by (fits e x j) (shape_found es x j)
  where
    by : (t : Bool) → option_map shape (entry_at es x j) ≡ entry_at (map shape es) x j →
        option_map shape (if t then Some e else entry_at es x j) ≡ (if t then Some (shape e) else entry_at (map shape es) x j)
    by true h = refl
    by false h = h

words_shaped : (c d : Cycle) (g : Signal) (j n : ℕ) → map shape (map (held_entry [] c) (words_from g j n)) ≡ map shape (map (held_entry [] d) (words_from g j n))
words_shaped c d g j zero = refl
words_shaped c d g j (suc n) = λ q. entry_of (record { name = (word_name (read g.name) j).text; width = g.width; low = 0; signed = false; reg = true; depth = 0 }) 0 ∷ words_shaped c d g (suc j) n q

one_shaped : (c d : Cycle) (g : Signal) (t : Bool) →
    map shape (if t then held_entry [] c g ∷ [] else entry_of g 0 ∷ map (held_entry [] c) (words_from g 0 g.depth))
    ≡ map shape (if t then held_entry [] d g ∷ [] else entry_of g 0 ∷ map (held_entry [] d) (words_from g 0 g.depth))
one_shaped c d g true = refl
one_shaped c d g false = ap (λ es. entry_of g 0 ∷ es) (words_shaped c d g 0 g.depth)

all_shaped : (c d : Cycle) (gs : List Signal) → map shape (flat_map (entries_of [] c) gs) ≡ map shape (flat_map (entries_of [] d) gs)
all_shaped c d [] = refl
all_shaped c d (g ∷ gs) =
    map_append shape (entries_of [] c g) (flat_map (entries_of [] c) gs)
    ∙ ((λ q. one_shaped c d g (nat_eq g.depth 0) q ++ all_shaped c d gs q) ∙ sym (map_append shape (entries_of [] d g) (flat_map (entries_of [] d) gs)))

abbrev pub entries : List Signal → Cycle → List Entry
entries gs c = flat_map (entries_of [] c) gs

same_shape : (gs : List Signal) (c d : Cycle) (x : Name) (j : ℕ) → option_map shape (entry_at (entries gs c) x j) ≡ option_map shape (entry_at (entries gs d) x j)
same_shape gs c d x j = shape_found (entries gs c) x j ∙ (ap (λ es. entry_at es x j) (all_shaped c d gs) ∙ sym (shape_found (entries gs d) x j))

abbrev width_by : Option Entry → ℕ
width_by o = unwrap_or (option_map (λ (e : Entry). e.width) o) 1

abbrev depth_by : Option Entry → ℕ
depth_by o = unwrap_or (option_map (λ (e : Entry). e.depth) o) 0

width_shaped : (o : Option Entry) → (unwrap_or (option_map meant o) (record { width = 1; low = 0; signed = false; value = 0 })).width ≡ width_by (option_map shape o)
width_shaped None = refl
width_shaped (Some e) = refl

depth_shaped : (o : Option Entry) → depth_by o ≡ depth_by (option_map shape o)
depth_shaped None = refl
depth_shaped (Some e) = refl

same_length : (gs : List Signal) (c d : Cycle) (x : Read) → (named (entries gs c) x).width ≡ (named (entries gs d) x).width
same_length gs c d x =
    width_shaped (entry_at (entries gs c) x.text x.offset)
    ∙ (ap width_by (same_shape gs c d x.text x.offset) ∙ sym (width_shaped (entry_at (entries gs d) x.text x.offset)))

same_depth : (gs : List Signal) (c d : Cycle) (x : Read) → depth_of (entries gs c) x ≡ depth_of (entries gs d) x
same_depth gs c d x =
    depth_shaped (entry_at (entries gs c) x.text x.offset)
    ∙ (ap depth_by (same_shape gs c d x.text x.offset) ∙ sym (depth_shaped (entry_at (entries gs d) x.text x.offset)))

-- ---- without the entries of memories

abbrev plain : Entry → Bool
plain e = nat_eq e.depth 0

filter_append : (xs ys : List Entry) → filter plain (xs ++ ys) ≡ filter plain xs ++ filter plain ys
filter_append [] ys = refl
filter_append (x ∷ xs) ys = by (plain x) (filter_append xs ys)
  where
    by : (t : Bool) → filter plain (xs ++ ys) ≡ filter plain xs ++ filter plain ys →
        cond t (x ∷ filter plain (xs ++ ys)) (filter plain (xs ++ ys)) ≡ cond t (x ∷ filter plain xs) (filter plain xs) ++ filter plain ys
    by true h = ap (λ zs. x ∷ zs) h
    by false h = h

words_kept : (c : Cycle) (g : Signal) (j n : ℕ) → flat_map (entries_of [] c) (words_from g j n) ≡ filter plain (map (held_entry [] c) (words_from g j n))
words_kept c g j zero = refl
words_kept c g j (suc n) =
    ap (λ es. held_entry [] c (record { name = (word_name (read g.name) j).text; width = g.width; low = 0; signed = false; reg = true; depth = 0 }) ∷ es) (words_kept c g (suc j) n)

one_kept : (c : Cycle) (g : Signal) (t : Bool) → nat_eq g.depth 0 ≡ t →
    flat_map (entries_of [] c) (if t then g ∷ [] else words_from g 0 g.depth)
    ≡ filter plain (if t then held_entry [] c g ∷ [] else entry_of g 0 ∷ map (held_entry [] c) (words_from g 0 g.depth))
one_kept c g true h =
    let one : entries_of [] c g ≡ held_entry [] c g ∷ [] = ap (λ (t : Bool). if t then held_entry [] c g ∷ [] else entry_of g 0 ∷ map (held_entry [] c) (words_from g 0 g.depth)) h in
    ap (λ es. es ++ []) one ∙ sym (ap (λ (t : Bool). cond t (held_entry [] c g ∷ []) []) h)
one_kept c g false h =
    words_kept c g 0 g.depth ∙ sym (ap (λ (t : Bool). cond t (entry_of g 0 ∷ filter plain (map (held_entry [] c) (words_from g 0 g.depth))) (filter plain (map (held_entry [] c) (words_from g 0 g.depth)))) h)

all_kept : (c : Cycle) (gs : List Signal) → entries (flat_map holders gs) c ≡ filter plain (entries gs c)
all_kept c [] = refl
all_kept c (g ∷ gs) =
    flat_append (entries_of [] c) (holders g) (flat_map holders gs)
    ∙ ((λ q. one_kept c g (nat_eq g.depth 0) refl q ++ all_kept c gs q) ∙ sym (filter_append (entries_of [] c g) (entries gs c)))

kept_found : (es : List Entry) (x : Name) (j : ℕ) → depth_by (entry_at es x j) ≡ 0 → entry_at (filter plain es) x j ≡ entry_at es x j
kept_found [] x j h = refl
kept_found (e ∷ es) x j h = by (λ k. kept_found es x j k) (fits e x j) refl (plain e) refl
  where
    by : (depth_by (entry_at es x j) ≡ 0 → entry_at (filter plain es) x j ≡ entry_at es x j) → (t : Bool) → fits e x j ≡ t → (u : Bool) → plain e ≡ u → entry_at (cond u (e ∷ filter plain es) (filter plain es)) x j ≡ (if t then Some e else entry_at es x j)
    by rest true k true p = ap (λ (b : Bool). if b then Some e else entry_at (filter plain es) x j) k
    by rest true k false p =
        let z : e.depth ≡ 0 = sym (ap (λ (b : Bool). depth_by (if b then Some e else entry_at es x j)) k) ∙ h in
        absurd (eqb-false e.depth 0 p z)
    by rest false k true p =
        ap (λ (b : Bool). if b then Some e else entry_at (filter plain es) x j) k
        ∙ rest (sym (ap (λ (b : Bool). depth_by (if b then Some e else entry_at es x j)) k) ∙ h)
    by rest false k false p = rest (sym (ap (λ (b : Bool). depth_by (if b then Some e else entry_at es x j)) k) ∙ h)

kept_plain : (es : List Entry) (x : Name) (j : ℕ) → depth_by (entry_at (filter plain es) x j) ≡ 0
kept_plain [] x j = refl
kept_plain (e ∷ es) x j = by (kept_plain es x j) (plain e) refl (fits e x j) refl
  where
    by : depth_by (entry_at (filter plain es) x j) ≡ 0 → (u : Bool) → plain e ≡ u → (t : Bool) → fits e x j ≡ t → depth_by (entry_at (cond u (e ∷ filter plain es) (filter plain es)) x j) ≡ 0
    by rest true p true k = ap (λ (b : Bool). depth_by (if b then Some e else entry_at (filter plain es) x j)) k ∙ eqb-true e.depth 0 p
    by rest true p false k = ap (λ (b : Bool). depth_by (if b then Some e else entry_at (filter plain es) x j)) k ∙ rest
    by rest false p t k = rest

-- ---- entries of one name

and_first : (a b : Bool) → a && b ≡ true → a ≡ true
and_first true b h = refl
and_first false b h = cc

and_second : (a b : Bool) → a && b ≡ true → b ≡ true
and_second true b h = h
and_second false b h = cc

and_both : (a b : Bool) → a ≡ true → b ≡ true → a && b ≡ true
and_both a b h k = λ q. h q && k q

found_among : (es : List Entry) (x : Name) (j : ℕ) (k : Entry) → entry_at es x j ≡ Some k → Among es k × (fits k x j ≡ true)
found_among [] x j k h = cc
found_among (e ∷ es) x j k h =
    ⊎_elim
    (λ (t : fits e x j ≡ true).
    let s : Some e ≡ Some k = sym (ap (λ (b : Bool). if b then Some e else entry_at es x j) t) ∙ h in
    let i : e ≡ k = cc in
    (inl i, subst (λ (z : Entry). fits z x j ≡ true) i t))
    (λ (t : fits e x j ≡ false).
    let r = found_among es x j k (sym (ap (λ (b : Bool). if b then Some e else entry_at es x j) t) ∙ h) in
    (inr r.0, r.1))
    (bool_cases (fits e x j))

abbrev entry_names : List Entry → List Name
entry_names es = map (λ (e : Entry). e.name) es

-- an entry whose name stands once is the one that is found
pub once_found : (es : List Entry) (e : Entry) → Among es e → e.offset ≡ 0 → (Repeats (entry_names es) e.name → ⊥) → entry_at es e.name 0 ≡ Some e
once_found [] e h z n = absurd h
once_found (d ∷ es) e h z n =
    ⊎_elim
    (λ (i : d ≡ e).
    let o : nat_eq d.offset 0 ≡ true = eq-eqb d.offset 0 (ap (λ (u : Entry). u.offset) i ∙ z) in
    let b : bytes_eq d.name e.name ≡ true = (bytes_eq-Decides d.name e.name).1 (ap (λ (u : Entry). u.name) i) in
    ap (λ (t : Bool). if t then Some d else entry_at es e.name 0) (and_both (nat_eq d.offset 0) (bytes_eq d.name e.name) o b) ∙ ap (λ (u : Entry). Some u) i)
    (λ (m : Among es e).
    ⊎_elim
    (λ (t : fits d e.name 0 ≡ true).
    let same : d.name ≡ e.name = (bytes_eq-Decides d.name e.name).0 (and_second (nat_eq d.offset 0) (bytes_eq d.name e.name) t) in
    absurd (n (inl (same, map_among (λ (u : Entry). u.name) es e m))))
    (λ (t : fits d e.name 0 ≡ false).
    ap (λ (b : Bool). if b then Some d else entry_at es e.name 0) t ∙ once_found es e m z (λ r. n (inr r)))
    (bool_cases (fits d e.name 0)))
    h

-- ---- entries of signals

-- the register of word j
abbrev pub word : Signal → ℕ → Signal
word g j = record { name = (word_name (read g.name) j).text; width = g.width; low = 0; signed = false; reg = true; depth = 0 }

word_entries : (c : Cycle) (g : Signal) (k n : ℕ) (e : Entry) → Among (map (held_entry [] c) (words_from g k n)) e → (e.depth ≡ 0) × (e.width ≡ g.width)
word_entries c g k zero e h = absurd h
word_entries c g k (suc n) e h =
    ⊎_elim (λ (i : held_entry [] c (word g k) ≡ e). (ap (λ (u : Entry). u.depth) (sym i), ap (λ (u : Entry). u.width) (sym i)))
    (λ m. word_entries c g (suc k) n e m) h

pub words_at : (g : Signal) (k i n : ℕ) → i < n → Among (words_from g k n) (word g (k + i))
words_at g k i zero h = omega (arith, h)
words_at g k zero (suc n) h = inl (ap (word g) (omega arith))
words_at g k (suc i) (suc n) h = inr (subst (λ j. Among (words_from g (suc k) n) (word g j)) (omega arith) (words_at g (suc k) i n (omega (arith, h))))

-- a memory stands behind an entry with words, and any other entry has the length of its signal
record IsEntryOf (gs : List Signal) (e : Entry) : Type 0 where
  signal : Signal
  among : Among gs signal
  width : e.width ≡ signal.width
  depth : (e.depth ≡ 0) ⊎ ((nat_eq signal.depth 0 ≡ false) × (e ≡ entry_of signal 0))

entry_by : (gs : List Signal) (c : Cycle) (g : Signal) (e : Entry) → Among gs g → (t : Bool) → nat_eq g.depth 0 ≡ t →
    Among (if t then held_entry [] c g ∷ [] else entry_of g 0 ∷ map (held_entry [] c) (words_from g 0 g.depth)) e → IsEntryOf gs e
entry_by gs c g e m true t h =
    ⊎_elim
    (λ (i : held_entry [] c g ≡ e).
    record { signal = g; among = m; width = ap (λ (u : Entry). u.width) (sym i); depth = inl (ap (λ (u : Entry). u.depth) (sym i) ∙ eqb-true g.depth 0 t) })
    (λ z. absurd z) h
entry_by gs c g e m false t h =
    ⊎_elim
    (λ (i : entry_of g 0 ≡ e). record { signal = g; among = m; width = ap (λ (u : Entry). u.width) (sym i); depth = inr (t, sym i) })
    (λ k. let r = word_entries c g 0 g.depth e k in record { signal = g; among = m; width = r.1; depth = inl r.0 }) h

entry_is : (gs : List Signal) (c : Cycle) (e : Entry) → Among (entries gs c) e → IsEntryOf gs e
entry_is gs c e h = let f = among_flat (entries_of [] c) gs e h in entry_by gs c f.0 e f.1 (nat_eq f.0.depth 0) refl f.2

-- the entry of a word
pub word_among : (gs : List Signal) (c : Cycle) (g : Signal) (j : ℕ) → Among gs g → nat_eq g.depth 0 ≡ false → j < g.depth → Among (entries gs c) (held_entry [] c (word g j))
word_among gs c g j m t l =
    let z : 0 + j ≡ j = omega arith in
    let k : Among (words_from g 0 g.depth) (word g j) = subst (λ i. Among (words_from g 0 g.depth) (word g i)) z (words_at g 0 j g.depth l) in
    flat_among (entries_of [] c) gs g (held_entry [] c (word g j)) m
    (subst (λ (b : Bool). Among (if b then held_entry [] c g ∷ [] else entry_of g 0 ∷ map (held_entry [] c) (words_from g 0 g.depth)) (held_entry [] c (word g j))) (sym t)
    (inr (map_among (held_entry [] c) (words_from g 0 g.depth) (word g j) k)))

pub word_named : (gs : List Signal) (g : Signal) (j : ℕ) → Among gs g → j < g.depth → Among (flat_map words_of gs) (word_name (read g.name) j).text
word_named gs g j m l =
    let z : 0 + j ≡ j = omega arith in
    let k : Among (words_from g 0 g.depth) (word g j) = subst (λ i. Among (words_from g 0 g.depth) (word g i)) z (words_at g 0 j g.depth l) in
    flat_among words_of gs g (word_name (read g.name) j).text m (map_among (λ (u : Signal). u.name) (words_from g 0 g.depth) (word g j) k)

-- ---- memories

-- what a name with words stands for
pub record IsDeep (gs : List Signal) (c : Cycle) (x : Read) : Type 0 where
  pub signal : Signal
  pub among : Among gs signal
  pub deep : nat_eq signal.depth 0 ≡ false
  pub name : x ≡ read signal.name
  pub width : (named (entries gs c) x).width ≡ signal.width
  pub depth : depth_of (entries gs c) x ≡ signal.depth

deep_by : (gs : List Signal) (c : Cycle) (x : Read) (o : Option Entry) → entry_at (entries gs c) x.text x.offset ≡ o → (depth_by o ≡ 0 → ⊥) → IsDeep gs c x
deep_by gs c x None h n = absurd (n refl)
deep_by gs c x (Some e) h n =
    let f = found_among (entries gs c) x.text x.offset e h in
    let r = entry_is gs c e f.0 in
    ⊎_elim (λ (z : e.depth ≡ 0). absurd (n z))
    (λ (d : (nat_eq r.signal.depth 0 ≡ false) × (e ≡ entry_of r.signal 0)).
    let offset : 0 ≡ x.offset = sym (ap (λ (u : Entry). u.offset) d.1) ∙ eqb-true e.offset x.offset (and_first (nat_eq e.offset x.offset) (bytes_eq e.name x.text) f.1) in
    let text : r.signal.name ≡ x.text = sym (ap (λ (u : Entry). u.name) d.1) ∙ (bytes_eq-Decides e.name x.text).0 (and_second (nat_eq e.offset x.offset) (bytes_eq e.name x.text) f.1) in
    record {
      signal = r.signal;
      among = r.among;
      deep = d.0;
      name = λ q. record { text = sym text q; offset = sym offset q };
      width = ap (λ (o : Option Entry). (unwrap_or (option_map meant o) (record { width = 1; low = 0; signed = false; value = 0 })).width) h ∙ r.width;
      depth = ap depth_by h ∙ ap (λ (u : Entry). u.depth) d.1;
    })
    r.depth

pub is_deep : (gs : List Signal) (c : Cycle) (x : Read) → (depth_of (entries gs c) x ≡ 0 → ⊥) → IsDeep gs c x
is_deep gs c x n = deep_by gs c x (entry_at (entries gs c) x.text x.offset) refl n

-- ---- a module's names in the module without memories

-- what is asked of signals: lengths from 1 to 64, at most 64 words, and words whose names are no others'
pub record AreSpreadable (gs : List Signal) : Type 0 where
  pub wide : (g : Signal) → Among gs g → IsLength g.width
  pub shallow : (g : Signal) → Among gs g → g.depth ≤ 64
  pub once : (y : Name) → Among (flat_map words_of gs) y → Repeats (known gs) y → ⊥

wide_by : (gs : List Signal) (c : Cycle) → AreSpreadable gs → (x : Read) (o : Option Entry) → entry_at (entries gs c) x.text x.offset ≡ o →
    IsLength (unwrap_or (option_map meant o) (record { width = 1; low = 0; signed = false; value = 0 })).width
wide_by gs c s x None h = (omega arith, omega arith)
wide_by gs c s x (Some e) h =
    let r = entry_is gs c e (found_among (entries gs c) x.text x.offset e h).0 in
    subst (λ n. IsLength n) (sym r.width) (s.wide r.signal r.among)

shallow_by : (gs : List Signal) (c : Cycle) → AreSpreadable gs → (x : Read) (o : Option Entry) → entry_at (entries gs c) x.text x.offset ≡ o → depth_by o ≤ 64
shallow_by gs c s x None h = omega arith
shallow_by gs c s x (Some e) h =
    let r = entry_is gs c e (found_among (entries gs c) x.text x.offset e h).0 in
    ⊎_elim (λ (z : e.depth ≡ 0). omega arith)
    (λ (d : (nat_eq r.signal.depth 0 ≡ false) × (e ≡ entry_of r.signal 0)).
    let z : e.depth ≡ r.signal.depth = ap (λ (u : Entry). u.depth) d.1 in
    let l = s.shallow r.signal r.among in
    omega arith) r.depth

-- the word j of a memory
pub word_is : (gs : List Signal) (c : Cycle) → AreSpreadable gs → (g : Signal) (j : ℕ) → Among gs g → nat_eq g.depth 0 ≡ false → j < g.depth →
    entry_at (entries gs c) (word_name (read g.name) j).text 0 ≡ Some (held_entry [] c (word g j))
word_is gs c s g j m t l =
    once_found (entries gs c) (held_entry [] c (word g j)) (word_among gs c g j m t l) refl
    (λ r. s.once (word_name (read g.name) j).text (word_named gs g j m l) (subst (λ ys. Repeats ys (word_name (read g.name) j).text) (known_is [] c gs) r))

abbrev stands_for : Option Entry → Constant
stands_for o = unwrap_or (option_map meant o) (record { width = 1; low = 0; signed = false; value = 0 })

word_stands : (gs : List Signal) (c : Cycle) → AreSpreadable gs → (g : Signal) (j : ℕ) (n : ℕ) → Among gs g → nat_eq g.depth 0 ≡ false → j < g.depth → n ≡ g.width →
    meaning_of (entries (flat_map holders gs) c) (word_name (read g.name) j)
    ≡ Some (record { width = n; low = 0; signed = false; value = (named (entries gs c) (word_name (read g.name) j)).value })
word_stands gs c s g j n m t l e =
    let x = (word_name (read g.name) j).text in
    let here = word_is gs c s g j m t l in
    let z : depth_by (entry_at (entries gs c) x 0) ≡ 0 = ap depth_by here in
    let there : entry_at (entries (flat_map holders gs) c) x 0 ≡ entry_at (entries gs c) x 0 = ap (λ es. entry_at es x 0) (all_kept c gs) ∙ kept_found (entries gs c) x 0 z in
    ap (option_map meant) (there ∙ here) ∙ (λ q. Some (record { width = sym e q; low = 0; signed = false; value = (stands_for (sym here q)).value }))

words_stand : (gs : List Signal) (c d : Cycle) → AreSpreadable gs → (x : Read) (j : ℕ) → j < depth_of (entries gs d) x →
    meaning_of (entries (flat_map holders gs) c) (word_name x j)
    ≡ Some (record { width = (named (entries gs d) x).width; low = 0; signed = false; value = (named (entries gs c) (word_name x j)).value })
words_stand gs c d s x j l =
    let n : depth_of (entries gs d) x ≡ 0 → ⊥ = λ z. omega (arith, z, l) in
    let r = is_deep gs d x n in
    let k : j < r.signal.depth = subst (λ i. j < i) r.depth l in
    subst
    (λ (y : Read). meaning_of (entries (flat_map holders gs) c) (word_name y j)
    ≡ Some (record { width = (named (entries gs d) x).width; low = 0; signed = false; value = (named (entries gs c) (word_name y j)).value }))
    (sym r.name)
    (word_stands gs c s r.signal j (named (entries gs d) x).width r.among r.deep k r.width)

pub spreads_into : (gs : List Signal) → AreSpreadable gs → SpreadsInto (at_rest (over gs)) gs (flat_map holders gs)
spreads_into gs s c = record {
  lengths = λ x. same_length gs c (λ y. 0) x;
  depths = λ x. same_depth gs c (λ y. 0) x;
  names = λ x h.
      ap (option_map meant)
      (ap (λ es. entry_at es x.text x.offset) (all_kept c gs) ∙ kept_found (entries gs c) x.text x.offset (same_depth gs c (λ y. 0) x ∙ h));
  no_memory = λ x. ap (λ es. depth_by (entry_at es x.text x.offset)) (all_kept c gs) ∙ kept_plain (entries gs c) x.text x.offset;
  words = λ x j l. words_stand gs c (λ y. 0) s x j l;
  wide = λ x. wide_by gs (λ y. 0) s x (entry_at (entries gs (λ y. 0)) x.text x.offset) refl;
  shallow = λ x. shallow_by gs (λ y. 0) s x (entry_at (entries gs (λ y. 0)) x.text x.offset) refl;
}
