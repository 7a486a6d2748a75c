-- In the module without instances each scope finds its own names.
use Rattle.std.proofs.Common.{◌≡◌, ℕ, zero, suc, ◌+◌, ◌<◌, ◌^◌, ◌&&◌, ◌||◌, Bool, true, false, nat_eq, List, [], ◌∷◌, ◌++◌, Option, Some, None, sym, ap, ◌∙◌, refl, inl, inr, ⊎_elim, map, subst, arith}
use Rattle.std.specs.Prelude.{if◌then◌else◌, is_some, unwrap_or}
use Rattle.std.specs.Option.{option_map}
use Rattle.std.specs.List.{flat_map}
use Rattle.std.specs.Str.{bytes_eq}
use Rattle.std.proofs.lemmas.Bool.{eqb-true}
use Rattle.std.proofs.lemmas.Slice.Eq.{bytes_eq-Decides}
use Rattle.vlog_tree.specs.declared.valuation.Entry.{Entry}
use Rattle.vlog_tree.specs.declared.expr.Constant.{Constant}
use Rattle.vlog_tree.specs.declared.expr.Name.{Name as Read}
use Rattle.vlog_tree.specs.Valuation.{entry_at, meant, meaning_of, named, depth_of, word_name}
use Rattle.vlog_tree_runs.specs.declared.flat.Signal.{Signal}
use Rattle.vlog_tree_runs.specs.Places.{Name, Cycle, Among, Place, read, words_from, entry_of, held_entry, entries_of, valuation}
use Rattle.vlog_tree_runs.specs.Blocks.{is_parameter, signal_at}
use Rattle.vlog_tree_runs.specs.Scopes.{Scope, place_of}
use Rattle.elab_flat_laws.specs.Moved.{under}
use Rattle.elab_flat_laws.specs.Uses.{has_signal, is_declared, names_of, known, AreConstants}
use Rattle.elab_flat_laws.specs.Flattened.{flat_signals, AreApart}
use Rattle.elab_flat_laws.specs.Laws.{SameRead, SameConstant}
use Rattle.elab_flat_laws.proofs.Lists.{bool_cases, none_not_some, among_map, among_flat, flat_among, flat_append}
use Rattle.elab_flat_laws.proofs.Entries.{Told, told, told_at, append_some, append_none, told_among, renamed, told_renamed, entries_renamed, none_later, all_present, known_told, told_known}
use Rattle.elab_flat_laws.proofs.Sides.{word_under}

-- what a name of a scope stands for by the scope's signals, and in a list of signals
abbrev own : Scope → Cycle → Name → Option Told
own s c x = told_at (flat_map (entries_of s.prefix c) (place_of s).signals) x

abbrev in_flat : List Signal → Cycle → Name → Option Told
in_flat gs c z = told_at (flat_map (entries_of [] c) gs) z

front : (t : Scope) (ss : List Scope) (c : Cycle) (z : Name) →
    in_flat (flat_map flat_signals (t ∷ ss)) c z ≡ told_at (flat_map (entries_of [] c) (flat_signals t) ++ flat_map (entries_of [] c) (flat_map flat_signals ss)) z
front t ss c z = ap (λ es. told_at es z) (flat_append (entries_of [] c) (flat_signals t) (flat_map flat_signals ss))

segment : (t : Scope) (c : Cycle) (z : Name) → in_flat (flat_signals t) c z ≡ told_at (map (renamed t.prefix) (flat_map (entries_of t.prefix c) (place_of t).signals)) z
segment t c z = ap (λ es. told_at es z) (entries_renamed t.prefix c (place_of t).signals)

-- what a part of the list tells is told by a name of its scope
named_in : (t : Scope) (c : Cycle) (z : Name) (k : Told) → in_flat (flat_signals t) c z ≡ Some k → (y : Name) × Among (known (place_of t).signals) y × (t.prefix ++ y ≡ z)
named_in t c z k h =
    let es = flat_map (entries_of t.prefix c) (place_of t).signals in
    let r = told_among (map (renamed t.prefix) es) z k (sym (segment t c z) ∙ h) in
    let q = among_map (renamed t.prefix) es r.0 r.1 in
    let e : t.prefix ++ q.0.name ≡ z = ap (λ (f : Entry). f.name) q.2 ∙ r.2 in
    let u : told_at es q.0.name ≡ told_at (map (renamed t.prefix) es) z = sym (told_renamed t.prefix es q.0.name) ∙ ap (λ y. told_at (map (renamed t.prefix) es) y) e in
    (q.0.name, told_known t.prefix c (place_of t).signals q.0.name k (u ∙ (sym (segment t c z) ∙ h)), e)

-- the names of one scope that is s
same_scope : (s t : Scope) (c : Cycle) (x : Name) → t ≡ s → in_flat (flat_signals t) c (s.prefix ++ x) ≡ own s c x
same_scope s t c x e =
    ap (λ (u : Scope). in_flat (flat_signals u) c (s.prefix ++ x)) e
    ∙ (segment s c (s.prefix ++ x) ∙ told_renamed s.prefix (flat_map (entries_of s.prefix c) (place_of s).signals) x)

found : (all : List Scope) → AreApart all → (s : Scope) (c : Cycle) (x : Name) → Among all s → Among (known (place_of s).signals) x →
    (t : Scope) (ss : List Scope) → Among all t → Among (t ∷ ss) s → (Among ss s → in_flat (flat_map flat_signals ss) c (s.prefix ++ x) ≡ own s c x) →
    (o : Option Told) → in_flat (flat_signals t) c (s.prefix ++ x) ≡ o → in_flat (flat_map flat_signals (t ∷ ss)) c (s.prefix ++ x) ≡ own s c x
found all apart s c x here d t ss there h rest None e =
    front t ss c (s.prefix ++ x)
    ∙ (append_none (flat_map (entries_of [] c) (flat_signals t)) (flat_map (entries_of [] c) (flat_map flat_signals ss)) (s.prefix ++ x) e
    ∙ ⊎_elim (λ (i : t ≡ s). absurd (none_not_some (own s c x) (known_told s.prefix c (place_of s).signals x d) (sym (same_scope s t c x i) ∙ e))) rest h)
found all apart s c x here d t ss there h rest (Some k) e =
    let r = named_in t c (s.prefix ++ x) k e in
    let i : t ≡ s = apart s t here there x r.0 d r.1 r.2 in
    front t ss c (s.prefix ++ x)
    ∙ (append_some (flat_map (entries_of [] c) (flat_signals t)) (flat_map (entries_of [] c) (flat_map flat_signals ss)) (s.prefix ++ x) k e
    ∙ (sym e ∙ same_scope s t c x i))

-- the scopes of ss, all of which stand in `all`, give s its own names
finds : (all : List Scope) → AreApart all → (s : Scope) (c : Cycle) (x : Name) → Among all s → Among (known (place_of s).signals) x →
    (ss : List Scope) → ((t : Scope) → Among ss t → Among all t) → Among ss s → in_flat (flat_map flat_signals ss) c (s.prefix ++ x) ≡ own s c x
finds all apart s c x here d [] inside h = absurd h
finds all apart s c x here d (t ∷ ss) inside h =
    found all apart s c x here d t ss (inside t (inl refl)) h (λ m. finds all apart s c x here d ss (λ u k. inside u (inr k)) m)
    (in_flat (flat_signals t) c (s.prefix ++ x)) refl

-- ---- from what is told to what names stand for

unnamed : Constant
unnamed = record { width = 1; low = 0; signed = false; value = 0 }

abbrev constant_in : Option Told → Constant
constant_in o = unwrap_or (option_map (λ (t : Told). t.constant) o) (record { width = 1; low = 0; signed = false; value = 0 })

abbrev depth_told : Option Told → ℕ
depth_told o = unwrap_or (option_map (λ (t : Told). t.depth) o) 0

constant_by : (o : Option Entry) → unwrap_or (option_map meant o) (record { width = 1; low = 0; signed = false; value = 0 }) ≡ constant_in (option_map told o)
constant_by None = refl
constant_by (Some e) = refl

depth_by : (o : Option Entry) → unwrap_or (option_map (λ (e : Entry). e.depth) o) 0 ≡ depth_told (option_map told o)
depth_by None = refl
depth_by (Some e) = refl

named_is : (v : List Entry) (x : Name) → named v (read x) ≡ constant_in (told_at v x)
named_is v x = constant_by (entry_at v x 0)

depth_is : (v : List Entry) (x : Name) → depth_of v (read x) ≡ depth_told (told_at v x)
depth_is v x = depth_by (entry_at v x 0)

-- names that no parameter has stand for what the signals say
beside : (s : Scope) (c : Cycle) (x : Name) → entry_at s.params x 0 ≡ None → told_at (valuation (place_of s) c) x ≡ own s c x
beside s c x none = append_none s.params (flat_map (entries_of s.prefix c) (place_of s).signals) x (ap (option_map told) none)

-- the list of all scopes
abbrev pub bare : List Signal → Place
bare gs = record { prefix = []; signals = gs; params = [] }

told_same : (ss : List Scope) → AreApart ss → (s : Scope) → Among ss s → (c : Cycle) (x : Name) → Among (known (place_of s).signals) x → entry_at s.params x 0 ≡ None →
    told_at (valuation (bare (flat_map flat_signals ss)) c) (s.prefix ++ x) ≡ told_at (valuation (place_of s) c) x
told_same ss apart s h c x d none = finds ss apart s c x h d ss (λ t k. k) h ∙ sym (beside s c x none)

-- ---- the words of a memory

words_listed : (g : Signal) (j i n : ℕ) → i < n → Among (map (λ (w : Signal). w.name) (words_from g j n)) (word_name (read g.name) (j + i)).text
words_listed g j i zero h = omega (arith, h)
words_listed g j zero (suc n) h = inl (ap (λ k. (word_name (read g.name) k).text) (omega arith))
words_listed g j (suc i) (suc n) h =
    inr (subst (λ k. Among (map (λ (w : Signal). w.name) (words_from g (suc j) n)) (word_name (read g.name) k).text) (omega arith) (words_listed g (suc j) i n (omega (arith, h))))

words_known : (gs : List Signal) (g : Signal) (j : ℕ) → Among gs g → nat_eq g.depth 0 ≡ false → j < g.depth → Among (known gs) (word_name (read g.name) j).text
words_known gs g j h b l =
    flat_among names_of gs g (word_name (read g.name) j).text h
    (subst (λ (t : Bool). Among (if t then g.name ∷ [] else g.name ∷ map (λ (w : Signal). w.name) (words_from g 0 g.depth)) (word_name (read g.name) j).text) (sym b) (inr (subst (λ k. Among (map (λ (w : Signal). w.name) (words_from g 0 g.depth)) (word_name (read g.name) k).text) zero_more (words_listed g 0 j g.depth l))))
  where
    zero_more : 0 + j ≡ j
    zero_more = omega arith

word_depth : (pre : Name) (c : Cycle) (g : Signal) (j n : ℕ) (e : Entry) → Among (map (held_entry pre c) (words_from g j n)) e → e.depth ≡ 0
word_depth pre c g j zero e h = absurd h
word_depth pre c g j (suc n) e h = ⊎_elim (λ i. ap (λ (f : Entry). f.depth) (sym i)) (λ m. word_depth pre c g (suc j) n e m) h

deep_by : (pre : Name) (c : Cycle) (gs : List Signal) (g : Signal) (e : Entry) (x : Name) (j : ℕ) → Among gs g → e.name ≡ x → j < e.depth → (b : Bool) → nat_eq g.depth 0 ≡ b →
    Among (if b then held_entry pre c g ∷ [] else entry_of g 0 ∷ map (held_entry pre c) (words_from g 0 g.depth)) e → Among (known gs) (word_name (read x) j).text
deep_by pre c gs g e x j h n l true b m =
    ⊎_elim (λ (i : held_entry pre c g ≡ e).
    let d : g.depth ≡ e.depth = ap (λ (f : Entry). f.depth) i in
    let z : g.depth ≡ 0 = eqb-true g.depth 0 b in
    absurd (omega (arith, d, z, l))) (λ k. absurd k) m
deep_by pre c gs g e x j h n l false b m =
    ⊎_elim (λ (i : entry_of g 0 ≡ e).
    let d : g.depth ≡ e.depth = ap (λ (f : Entry). f.depth) i in
    let y : g.name ≡ x = ap (λ (f : Entry). f.name) i ∙ n in
    subst (λ z. Among (known gs) (word_name (read z) j).text) y (words_known gs g j h b (omega (arith, d, l))))
    (λ k. let z : e.depth ≡ 0 = word_depth pre c g 0 g.depth e k in absurd (omega (arith, z, l))) m

-- the words of what is told to be a memory are known
deep : (pre : Name) (c : Cycle) (gs : List Signal) (x : Name) (j : ℕ) (o : Option Told) → told_at (flat_map (entries_of pre c) gs) x ≡ o → j < depth_told o → Among (known gs) (word_name (read x) j).text
deep pre c gs x j None h l = absurd (omega (arith, l))
deep pre c gs x j (Some k) h l =
    let r = told_among (flat_map (entries_of pre c) gs) x k h in
    let q = among_flat (entries_of pre c) gs r.0 r.1 in
    let d : r.0.depth ≡ k.depth = ap (λ (t : Told). t.depth) r.3 in
    deep_by pre c gs q.0 r.0 x j q.1 r.2 (omega (arith, d, l)) (nat_eq q.0.depth 0) refl q.2

-- ---- signals

pub signal_known : (gs : List Signal) (x : Name) → has_signal gs x ≡ true → Among (known gs) x
signal_known gs x h = known_of gs x (signal_at gs x) refl h
  where
    first_name : (g : Signal) (b : Bool) → nat_eq g.depth 0 ≡ b → Among (names_of g) g.name
    first_name g true e = rw e (inl refl)
    first_name g false e = rw e (inl refl)

    found_at : (gs : List Signal) (x : Name) (g : Signal) → signal_at gs x ≡ Some g → Among gs g × (g.name ≡ x)
    found_at [] x g e = cc
    found_at (f ∷ gs) x g e =
        ⊎_elim (λ (t : bytes_eq f.name x ≡ true).
        let s : Some f ≡ Some g = sym (ap (λ (b : Bool). if b then Some f else signal_at gs x) t) ∙ e in
        let i : f ≡ g = cc in
        (inl i, ap (λ (u : Signal). u.name) (sym i) ∙ (bytes_eq-Decides f.name x).0 t))
        (λ (t : bytes_eq f.name x ≡ false).
        let r = found_at gs x g (sym (ap (λ (b : Bool). if b then Some f else signal_at gs x) t) ∙ e) in (inr r.0, r.1))
        (bool_cases (bytes_eq f.name x))

    known_of : (gs : List Signal) (x : Name) (o : Option Signal) → signal_at gs x ≡ o → is_some (signal_at gs x) ≡ true → Among (known gs) x
    known_of gs x None e h = absurd (none_not_some (signal_at gs x) h e)
    known_of gs x (Some g) e h =
        let r = found_at gs x g e in
        flat_among names_of gs g x r.0 (subst (λ y. Among (names_of g) y) r.1 (first_name g (nat_eq g.depth 0) refl))

-- ---- a scope moves into the list of all

pub told_none : {A B : Type 0} (f : A → B) (o : Option A) → option_map f o ≡ None → o ≡ None
told_none f None h = refl
told_none f (Some a) h = cc

none_is : {A : Type 0} (o : Option A) → o ≡ None → is_some o ≡ false
none_is o h = ap is_some h

or_false : (a b : Bool) → a || b ≡ true → a ≡ false → b ≡ true
or_false a b h f = rw f at h

entry_append : (a b : List Entry) (x : Name) (j : ℕ) → entry_at a x j ≡ None → entry_at (a ++ b) x j ≡ entry_at b x j
entry_append [] b x j h = refl
entry_append (e ∷ a) b x j h =
    ⊎_elim (λ (t : (nat_eq e.offset j && bytes_eq e.name x) ≡ true).
    let z : Some e ≡ None = sym (ap (λ (u : Bool). if u then Some e else entry_at a x j) t) ∙ h in cc)
    (λ (t : (nat_eq e.offset j && bytes_eq e.name x) ≡ false).
    ap (λ (u : Bool). if u then Some e else entry_at (a ++ b) x j) t
    ∙ entry_append a b x j (sym (ap (λ (u : Bool). if u then Some e else entry_at a x j) t) ∙ h))
    (bool_cases (nat_eq e.offset j && bytes_eq e.name x))

entry_front : (a b : List Entry) (x : Name) (j : ℕ) (k : Entry) → entry_at a x j ≡ Some k → entry_at (a ++ b) x j ≡ Some k
entry_front [] b x j k h = cc
entry_front (e ∷ a) b x j k h =
    ⊎_elim (λ (t : (nat_eq e.offset j && bytes_eq e.name x) ≡ true).
    ap (λ (u : Bool). if u then Some e else entry_at (a ++ b) x j) t ∙ (sym (ap (λ (u : Bool). if u then Some e else entry_at a x j) t) ∙ h))
    (λ (t : (nat_eq e.offset j && bytes_eq e.name x) ≡ false).
    ap (λ (u : Bool). if u then Some e else entry_at (a ++ b) x j) t
    ∙ entry_front a b x j k (sym (ap (λ (u : Bool). if u then Some e else entry_at a x j) t) ∙ h))
    (bool_cases (nat_eq e.offset j && bytes_eq e.name x))

constant_at : (es : List Entry) → AreConstants es → (x : Name) (j : ℕ) (k : Entry) → entry_at es x j ≡ Some k → (k.depth ≡ 0) × (k.value < 2 ^ k.width)
constant_at [] a x j k h = cc
constant_at (e ∷ es) a x j k h =
    ⊎_elim (λ (t : (nat_eq e.offset j && bytes_eq e.name x) ≡ true).
    let s : Some e ≡ Some k = sym (ap (λ (u : Bool). if u then Some e else entry_at es x j) t) ∙ h in
    let i : e ≡ k = cc in
    subst (λ (u : Entry). (u.depth ≡ 0) × (u.value < 2 ^ u.width)) i (a.0, a.1))
    (λ (t : (nat_eq e.offset j && bytes_eq e.name x) ≡ false).
    constant_at es a.2 x j k (sym (ap (λ (u : Bool). if u then Some e else entry_at es x j) t) ∙ h))
    (bool_cases (nat_eq e.offset j && bytes_eq e.name x))

-- a name that nothing says
unsaid : (v : List Entry) (x : Read) → entry_at v x.text x.offset ≡ None → (named v x ≡ record { width = 1; low = 0; signed = false; value = 0 }) × (depth_of v x ≡ 0)
unsaid v x h = (ap (λ o. unwrap_or (option_map meant o) (record { width = 1; low = 0; signed = false; value = 0 })) h, ap (λ (o : Option Entry). unwrap_or (option_map (λ (e : Entry). e.depth) o) 0) h)

same_unsaid : (v w : List Entry) (pre : Name) (x : Read) → entry_at v x.text x.offset ≡ None → entry_at w (pre ++ x.text) x.offset ≡ None → SameRead v w pre x
same_unsaid v w pre x h k =
    let a = unsaid v x h in
    let b = unsaid w (under pre x) k in
    record { meaning = b.0 ∙ sym a.0; depth = b.1 ∙ sym a.1; words = λ j l. absurd (omega (arith, l, a.1)) }

-- a known name that is no parameter's
same_known : (ss : List Scope) → AreApart ss → (s : Scope) → Among ss s → ((x : Name) → Among (known (place_of s).signals) x → entry_at s.params x 0 ≡ None) →
    (c : Cycle) (x : Name) → Among (known (place_of s).signals) x → SameRead (valuation (place_of s) c) (valuation (bare (flat_map flat_signals ss)) c) s.prefix (read x)
same_known ss apart s h distinct c x d =
    let v = valuation (place_of s) c in
    let w = valuation (bare (flat_map flat_signals ss)) c in
    let t = told_same ss apart s h c x d (distinct x d) in
    let own_told : told_at v x ≡ told_at (flat_map (entries_of s.prefix c) (place_of s).signals) x = beside s c x (distinct x d) in
    record {
      meaning = named_is w (s.prefix ++ x) ∙ (ap constant_in t ∙ sym (named_is v x));
      depth = depth_is w (s.prefix ++ x) ∙ (ap depth_told t ∙ sym (depth_is v x));
      words = λ j l.
          let n : j < depth_told (told_at v x) = subst (λ k. j < k) (depth_is v x) l in
          let z = deep s.prefix c (place_of s).signals x j (told_at v x) (sym own_told) n in
          let y = (word_name (read x) j).text in
          ap (λ q. named w (read q)) (word_under s.prefix x j)
          ∙ (named_is w (s.prefix ++ y) ∙ (ap constant_in (told_same ss apart s h c y z (distinct y z)) ∙ sym (named_is v y)));
    }

pub name_moves : (ss : List Scope) → AreApart ss → (s : Scope) → Among ss s → ((x : Name) → Among (known (place_of s).signals) x → entry_at s.params x 0 ≡ None) →
    (c : Cycle) (x : Name) (j : ℕ) → is_declared (place_of s) x ≡ true → entry_at s.params x j ≡ None →
    SameRead (valuation (place_of s) c) (valuation (bare (flat_map flat_signals ss)) c) s.prefix (record { text = x; offset = j })
name_moves ss apart s h distinct c x zero d none =
    same_known ss apart s h distinct c x
    (signal_known (place_of s).signals x (or_false (is_parameter (place_of s) x) (has_signal (place_of s).signals x) d (none_is (entry_at s.params x 0) none)))
name_moves ss apart s h distinct c x (suc j) d none =
    same_unsaid (valuation (place_of s) c) (valuation (bare (flat_map flat_signals ss)) c) s.prefix (record { text = x; offset = suc j })
    (entry_append s.params (flat_map (entries_of s.prefix c) (place_of s).signals) x (suc j) none ∙ none_later (flat_map (entries_of s.prefix c) (place_of s).signals) (all_present s.prefix c (place_of s).signals) x j)
    (none_later (flat_map (entries_of [] c) (flat_map flat_signals ss)) (all_present [] c (flat_map flat_signals ss)) (s.prefix ++ x) j)

constant_moves : (ps es : List Entry) → AreConstants ps → (x : Read) (k : Constant) (o : Option Entry) → entry_at ps x.text x.offset ≡ o → option_map meant o ≡ Some k → SameConstant (ps ++ es) x k
constant_moves ps es a x k None h e = cc
constant_moves ps es a x k (Some f) h e =
    let i : meant f ≡ k = cc in
    let g = entry_front ps es x.text x.offset f h in
    let r = constant_at ps a x.text x.offset f h in
    record {
      meaning = ap (λ o. unwrap_or (option_map meant o) (record { width = 1; low = 0; signed = false; value = 0 })) g ∙ i;
      depth = ap (λ (o : Option Entry). unwrap_or (option_map (λ (u : Entry). u.depth) o) 0) g ∙ r.0;
      fits = subst (λ (u : Constant). u.value < 2 ^ u.width) i r.1;
    }

pub constants_move : (ps es : List Entry) → AreConstants ps → (x : Read) (k : Constant) → meaning_of ps x ≡ Some k → SameConstant (ps ++ es) x k
constants_move ps es a x k h = constant_moves ps es a x k (entry_at ps x.text x.offset) refl h
