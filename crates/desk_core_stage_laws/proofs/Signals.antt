-- The signals and ports of the module without instances.
use Rattle.std.proofs.Common.{◌≡◌, ℕ, zero, suc, ◌&&◌, Bool, true, false, nat_eq, List, [], ◌∷◌, ◌++◌, Option, Some, map, sym, ap, ◌∙◌, refl, subst, ◌⊎◌, inl, inr, ⊎_elim}
use Rattle.std.specs.Prelude.{IsSomeAnd, unwrap_or, if◌then◌else◌}
use Rattle.std.specs.Option.{option_map}
use Rattle.std.specs.List.{flat_map}
use Rattle.std.specs.Str.{bytes_eq}
use Rattle.std.proofs.lemmas.Bool.{eq-eqb}
use Rattle.std.proofs.lemmas.List.{append_cancel_left}
use Rattle.std.proofs.lemmas.Slice.Eq.{bytes_eq-Decides}
use Rattle.vlog_tree.specs.declared.module.Module.{Module}
use Rattle.vlog_tree.specs.declared.valuation.Entry.{Entry}
use Rattle.vlog_tree.specs.Valuation.{IsLength, entry_at, is_named, meant, named}
use Rattle.vlog_tree.specs.Value.{Stands}
use Rattle.vlog_tree_runs.specs.declared.flat.Signal.{Signal}
use Rattle.vlog_tree_runs.specs.Places.{Name, Cycle, Among, read, words_from, entry_of, entries_of, held_entry}
use Rattle.vlog_tree_runs.specs.Contents.{Decl, decls_in, signals_in, once, joined, is_among}
use Rattle.vlog_tree_runs.specs.Scopes.{Scope, place_of, signal_of}
use Rattle.elab_flat_laws.specs.Moved.{moved_signal}
use Rattle.elab_flat_laws.specs.Uses.{has_signal, names_of, known}
use Rattle.elab_flat_laws.specs.Flattened.{flat_signals, AreApart}
use Rattle.elab_flat_laws.proofs.Entries.{known_is}
use Rattle.elab_flat_laws.proofs.Lists.{bool_cases, among_append, among_map, map_among, map_append, among_flat, flat_among}
use Rattle.elab_flat_faults.specs.Declaring.{Repeats}
use Rattle.mem_laws.proofs.Finding.{AreSpreadable, entries, once_found}
use Rattle.mem_laws.proofs.Names.{known_once}
use Rattle.elab_step_nets.specs.Solving.{AreDistinct}
use Rattle.elab_step_nets.proofs.Solving.{same_name}
use Rattle.desk_core_stage_laws.proofs.Paths.{AreOnce, or_left, or_right}

-- ---- names that stand once

abbrev pub decl_name : Decl → Name
decl_name d = d.name

abbrev pub signal_name : Signal → Name
signal_name g = g.name

distinct_append : (xs ys : List Name) → AreDistinct xs → AreDistinct ys → ((x : Name) → Among xs x → Among ys x → ⊥) → AreDistinct (xs ++ ys)
distinct_append [] ys h k apart = k
distinct_append (x ∷ xs) ys h k apart = (
  λ n. ⊎_elim (λ i. h.0 i) (λ j. apart x (inl refl) j) (among_append xs ys x n),
  distinct_append xs ys h.1 k (λ y n. apart y (inr n)),
)

pub no_repeats : (xs : List Name) → ((x : Name) → Repeats xs x → ⊥) → AreDistinct xs
no_repeats [] h = tt
no_repeats (x ∷ xs) h = (λ n. h x (inl (refl, n)), no_repeats xs (λ y n. h y (inr n)))

-- ---- the signals of one module

once_new : (all : List Decl) (done : List Name) (ds : List Decl) (x : Name) → Among (map decl_name (once all done ds)) x → is_among done x ≡ false
once_new all done [] x h = absurd h
once_new all done (d ∷ ds) x h =
    ⊎_elim
    (λ (t : is_among done d.name ≡ true). once_new all done ds x (rw t at h))
    (λ (t : is_among done d.name ≡ false).
    let k : (d.name ≡ x) ⊎ Among (map decl_name (once all (d.name ∷ done) ds)) x = rw t at h in
    ⊎_elim (λ (i : d.name ≡ x). subst (λ y. is_among done y ≡ false) i t)
    (λ n. or_right (bytes_eq d.name x) (is_among done x) (once_new all (d.name ∷ done) ds x n)) k)
    (bool_cases (is_among done d.name))

once_distinct : (all : List Decl) (done : List Name) (ds : List Decl) → AreDistinct (map decl_name (once all done ds))
once_distinct all done [] = tt
once_distinct all done (d ∷ ds) =
    ⊎_elim
    (λ (t : is_among done d.name ≡ true). rw t (once_distinct all done ds))
    (λ (t : is_among done d.name ≡ false). rw t (
      λ n. differs d.name (or_left (bytes_eq d.name d.name) (is_among done d.name) (once_new all (d.name ∷ done) ds d.name n)),
      once_distinct all (d.name ∷ done) ds,
    ))
    (bool_cases (is_among done d.name))
  where
    differs : (x : Name) → bytes_eq x x ≡ false → ⊥
    differs x e = let t = same_name x in cc

-- each signal has the shape and the words of a declaration
pub record IsShapedAs (ds : List Decl) (d : Decl) : Type 0 where
  pub from : Decl
  pub among : Among ds from
  pub name : from.name ≡ d.name
  pub shape : from.shape ≡ d.shape
  pub words : from.words ≡ d.words

once_shaped : (all : List Decl) (done : List Name) (ds : List Decl) (d : Decl) → Among (once all done ds) d → IsShapedAs ds d
once_shaped all done [] d h = absurd h
once_shaped all done (e ∷ ds) d h =
    ⊎_elim
    (λ (t : is_among done e.name ≡ true). let r = once_shaped all done ds d (rw t at h) in more e ds d r)
    (λ (t : is_among done e.name ≡ false).
    let k : (joined all e ≡ d) ⊎ Among (once all (e.name ∷ done) ds) d = rw t at h in
    ⊎_elim (λ (i : joined all e ≡ d). record { from = e; among = inl refl; name = ap (λ (z : Decl). z.name) i; shape = ap (λ (z : Decl). z.shape) i; words = ap (λ (z : Decl). z.words) i })
    (λ n. more e ds d (once_shaped all (e.name ∷ done) ds d n)) k)
    (bool_cases (is_among done e.name))
  where
    more : (e : Decl) (ds : List Decl) (d : Decl) → IsShapedAs ds d → IsShapedAs (e ∷ ds) d
    more e ds d r = record { from = r.from; among = inr r.among; name = r.name; shape = r.shape; words = r.words }

pub signal_shaped : (m : Module) (d : Decl) → Among (signals_in m) d → IsShapedAs (decls_in m) d
signal_shaped m d h = once_shaped (decls_in m) [] (decls_in m) d h

-- a name that is declared is a signal's
once_has : (all : List Decl) (done : List Name) (ds : List Decl) (x : Name) → Among (map decl_name ds) x → is_among done x ≡ false → Among (map decl_name (once all done ds)) x
once_has all done [] x h f = absurd h
once_has all done (d ∷ ds) x h f =
    ⊎_elim
    (λ (t : is_among done d.name ≡ true). rw t (once_has all done ds x (⊎_elim (λ (i : d.name ≡ x). absurd (seen done d.name x i t f)) (λ n. n) h) f))
    (λ (t : is_among done d.name ≡ false). rw t (
    ⊎_elim (λ (e : bytes_eq d.name x ≡ true). inl ((bytes_eq-Decides d.name x).0 e))
    (λ (e : bytes_eq d.name x ≡ false). inr (once_has all (d.name ∷ done) ds x (⊎_elim (λ (i : d.name ≡ x). absurd (other d.name x i e)) (λ n. n) h) (rw e f)))
    (bool_cases (bytes_eq d.name x))
    ))
    (bool_cases (is_among done d.name))
  where
    seen : (done : List Name) (y x : Name) → y ≡ x → is_among done y ≡ true → is_among done x ≡ false → ⊥
    seen done y x i t f = let z : is_among done x ≡ true = subst (λ n. is_among done n ≡ true) i t in cc

    other : (y x : Name) → y ≡ x → bytes_eq y x ≡ false → ⊥
    other y x i e = let t = (bytes_eq-Decides y x).1 i in cc

pub signal_declared : (m : Module) (x : Name) → Among (map decl_name (decls_in m)) x → Among (map decl_name (signals_in m)) x
signal_declared m x h = once_has (decls_in m) [] (decls_in m) x h refl

-- ---- the signals of all scopes

first_name : (g : Signal) (b : Bool) → nat_eq g.depth 0 ≡ b → Among (names_of g) g.name
first_name g true e = rw e (inl refl)
first_name g false e = rw e (inl refl)

pub name_known : (gs : List Signal) (g : Signal) → Among gs g → Among (known gs) g.name
name_known gs g h = flat_among names_of gs g g.name h (first_name g (nat_eq g.depth 0) refl)

under_distinct : (pre : Name) (v : List Entry) (ds : List Decl) → AreDistinct (map decl_name ds) → AreDistinct (map signal_name (map (moved_signal pre) (map (signal_of v) ds)))
under_distinct pre v [] h = tt
under_distinct pre v (d ∷ ds) h = (λ n. h.0 (back ds n), under_distinct pre v ds h.1)
  where
    back : (es : List Decl) → Among (map signal_name (map (moved_signal pre) (map (signal_of v) es))) (pre ++ d.name) → Among (map decl_name es) d.name
    back [] n = absurd n
    back (e ∷ es) n = ⊎_elim (λ (i : pre ++ e.name ≡ pre ++ d.name). inl (append_cancel_left pre e.name d.name i)) (λ k. inr (back es k)) n

scope_distinct : (s : Scope) → AreDistinct (map signal_name (flat_signals s))
scope_distinct s = under_distinct s.prefix s.params (signals_in s.module') (once_distinct (decls_in s.module') [] (decls_in s.module'))

-- a name of one scope
flat_name : (s : Scope) (x : Name) → Among (map signal_name (flat_signals s)) x → (g : Signal) × Among (place_of s).signals g × (s.prefix ++ g.name ≡ x)
flat_name s x h =
    let r = among_map signal_name (flat_signals s) x h in
    let q = among_map (moved_signal s.prefix) (place_of s).signals r.0 r.1 in
    (q.0, q.1, ap signal_name q.2 ∙ r.2)

pub all_distinct : (all : List Scope) → AreApart all → (ss : List Scope) → ((t : Scope) → Among ss t → Among all t) → AreOnce ss → AreDistinct (map signal_name (flat_map flat_signals ss))
all_distinct all apart [] inside o = tt
all_distinct all apart (s ∷ ss) inside o =
    subst AreDistinct (sym (map_append signal_name (flat_signals s) (flat_map flat_signals ss)))
    (distinct_append (map signal_name (flat_signals s)) (map signal_name (flat_map flat_signals ss)) (scope_distinct s)
    (all_distinct all apart ss (λ t n. inside t (inr n)) o.1)
    (λ x n k.
    let a = flat_name s x n in
    let r = among_map signal_name (flat_map flat_signals ss) x k in
    let q = among_flat flat_signals ss r.0 r.1 in
    let b = flat_name q.0 x (subst (λ y. Among (map signal_name (flat_signals q.0)) y) r.2 (map_among signal_name (flat_signals q.0) r.0 q.2)) in
    let same : q.0 ≡ s = apart s q.0 (inside s (inl refl)) (inside q.0 (inr q.1)) a.0.name b.0.name
    (name_known (place_of s).signals a.0 a.1) (name_known (place_of q.0).signals b.0 b.1) (b.2 ∙ sym a.2) in
    o.0 (subst (λ t. Among ss t) same q.1)))

-- ---- what the names of signals stand for

-- the entry of a signal
record IsEntryOf (g : Signal) (es : List Entry) : Type 0 where
  entry : Entry
  among : Among es entry
  name : entry.name ≡ g.name
  offset : entry.offset ≡ 0
  width : entry.width ≡ g.width

own_entry : (c : Cycle) (g : Signal) → IsEntryOf g (entries_of [] c g)
own_entry c g =
    ⊎_elim (λ (t : nat_eq g.depth 0 ≡ true). rw t (record { entry = held_entry [] c g; among = inl refl; name = refl; offset = refl; width = refl }))
    (λ (t : nat_eq g.depth 0 ≡ false). rw t (record { entry = entry_of g 0; among = inl refl; name = refl; offset = refl; width = refl }))
    (bool_cases (nat_eq g.depth 0))

signal_entry : (gs : List Signal) (c : Cycle) (g : Signal) → Among gs g → IsEntryOf g (entries gs c)
signal_entry gs c g m =
    let r = own_entry c g in
    record { entry = r.entry; among = flat_among (entries_of [] c) gs g r.entry m r.among; name = r.name; offset = r.offset; width = r.width }

words_long : (c : Cycle) (g : Signal) (j n : ℕ) (e : Entry) → Among (map (held_entry [] c) (words_from g j n)) e → e.width ≡ g.width
words_long c g j zero e h = absurd h
words_long c g j (suc n) e h =
    ⊎_elim (λ i. ap (λ (u : Entry). u.width) (sym i)) (λ k. words_long c g (suc j) n e k) h

entry_long : (c : Cycle) (g : Signal) (e : Entry) (t : Bool) → Among (if t then held_entry [] c g ∷ [] else entry_of g 0 ∷ map (held_entry [] c) (words_from g 0 g.depth)) e → e.width ≡ g.width
entry_long c g e true h = ⊎_elim (λ (i : held_entry [] c g ≡ e). ap (λ (u : Entry). u.width) (sym i)) (λ z. absurd z) h
entry_long c g e false h = ⊎_elim (λ (i : entry_of g 0 ≡ e). ap (λ (u : Entry). u.width) (sym i)) (λ k. words_long c g 0 g.depth e k) h

all_wide : (gs : List Signal) (c : Cycle) → ((g : Signal) → Among gs g → IsLength g.width) → (e : Entry) → Among (entries gs c) e → IsLength e.width
all_wide gs c wide e h =
    let r = among_flat (entries_of [] c) gs e h in subst IsLength (sym (entry_long c r.0 e (nat_eq r.0.depth 0) r.2)) (wide r.0 r.1)

-- a name of an entry stands for something, the first entry of the name
found_wide : (es : List Entry) → ((e : Entry) → Among es e → IsLength e.width) → (e : Entry) → Among es e → e.offset ≡ 0 →
    IsSomeAnd (option_map meant (entry_at es e.name 0)) (λ k. IsLength k.width)
found_wide [] wide e h z = absurd h
found_wide (d ∷ es) wide e h z =
    ⊎_elim (λ (t : is_named e.name 0 d ≡ true). rw t (wide d (inl refl)))
    (λ (t : is_named e.name 0 d ≡ false).
    rw t (⊎_elim (λ (i : d ≡ e). absurd (missed e z (subst (λ (u : Entry). is_named e.name 0 u ≡ false) i t))) (λ k. found_wide es (λ u m. wide u (inr m)) e k z) h))
    (bool_cases (is_named e.name 0 d))
  where
    missed : (e : Entry) → e.offset ≡ 0 → is_named e.name 0 e ≡ false → ⊥
    missed e z t =
        let b = same_name e.name in
        let o : nat_eq e.offset 0 ≡ true = eq-eqb e.offset 0 z in
        let u : is_named e.name 0 e ≡ true = λ q. o q && b q in
        let no : true ≡ false = sym u ∙ t in
        cc

pub signal_stands : (gs : List Signal) → ((g : Signal) → Among gs g → IsLength g.width) → (c : Cycle) (g : Signal) → Among gs g → (x : Name) → g.name ≡ x → Stands (entries gs c) (read x)
signal_stands gs wide c g m x e =
    let r = signal_entry gs c g m in
    subst (λ y. Stands (entries gs c) (read y)) (r.name ∙ e) (found_wide (entries gs c) (all_wide gs c wide) r.entry r.among r.offset)

pub distinct_once : (xs : List Name) → AreDistinct xs → (x : Name) → Repeats xs x → ⊥
distinct_once [] d x h = h
distinct_once (y ∷ xs) d x h = ⊎_elim (λ (r : (y ≡ x) × Among xs x). d.0 (subst (λ z. Among xs z) (sym r.0) r.1)) (λ k. distinct_once xs d.1 x k) h

-- where words have names of their own, a signal has its length
pub signal_width : (gs : List Signal) → AreSpreadable gs → AreDistinct (map signal_name gs) → (c : Cycle) (g : Signal) → Among gs g → (x : Name) → g.name ≡ x →
    (named (entries gs c) (read x)).width ≡ g.width
signal_width gs s distinct c g m x e =
    let r = signal_entry gs c g m in
    let found : entry_at (entries gs c) r.entry.name 0 ≡ Some r.entry =
    once_found (entries gs c) r.entry r.among r.offset
    (λ k. known_once gs s (distinct_once (map signal_name gs) distinct) r.entry.name (subst (λ ys. Repeats ys r.entry.name) (known_is [] c gs) k)) in
    let here : (named (entries gs c) (read r.entry.name)).width ≡ g.width =
    ap (λ (o : Option Entry). (unwrap_or (option_map meant o) (record { width = 1; low = 0; signed = false; value = 0 })).width) found ∙ r.width in
    subst (λ y. (named (entries gs c) (read y)).width ≡ g.width) (r.name ∙ e) here

-- a name that has a signal
pub found_signal : (gs : List Signal) (x : Name) → has_signal gs x ≡ true → (g : Signal) × Among gs g × (g.name ≡ x)
found_signal [] x h = cc
found_signal (g ∷ gs) x h =
    ⊎_elim (λ (t : bytes_eq g.name x ≡ true). (g, inl refl, (bytes_eq-Decides g.name x).0 t))
    (λ (t : bytes_eq g.name x ≡ false). let r = found_signal gs x (rw t at h) in (r.0, inr r.1, r.2))
    (bool_cases (bytes_eq g.name x))
