-- What names stand for, in lists of entries joined end to end and under a prefix.
use Rattle.std.proofs.Common.{◌≡◌, ℕ, zero, suc, ◌&&◌, Bool, true, false, nat_eq, List, [], ◌∷◌, ◌++◌, Option, Some, None, sym, ap, ◌∙◌, refl, inl, inr, ⊎_elim, map, subst}
use Rattle.std.specs.Prelude.{if◌then◌else◌, is_some}
use Rattle.std.specs.Option.{option_map}
use Rattle.std.specs.List.{flat_map}
use Rattle.std.specs.Str.{bytes_eq}
use Rattle.std.proofs.Math.Dec.{eqb-zero-suc}
use Rattle.std.proofs.lemmas.Slice.Eq.{bytes_eq-Decides}
use Rattle.vlog_tree.specs.declared.valuation.Entry.{Entry}
use Rattle.vlog_tree.specs.declared.expr.Constant.{Constant}
use Rattle.vlog_tree.specs.Valuation.{entry_at, meant, word_name}
use Rattle.vlog_tree_runs.specs.declared.flat.Signal.{Signal}
use Rattle.vlog_tree_runs.specs.Places.{Name, Cycle, Among, read, words_from, entry_of, held_entry, entries_of}
use Rattle.elab_flat_laws.specs.Moved.{moved_signal}
use Rattle.elab_flat_laws.specs.Uses.{names_of, known}
use Rattle.elab_flat_laws.proofs.Lists.{bool_cases, eq_under, map_append, map_among}
use Rattle.elab_flat_laws.proofs.Sides.{word_under}

-- what an entry says apart from its name
pub record Told : Type 0 where
  pub constant : Constant
  pub depth : ℕ

abbrev pub told : Entry → Told
told e = record { constant = meant e; depth = e.depth }

abbrev pub told_at : List Entry → Name → Option Told
told_at v x = option_map told (entry_at v x 0)

-- whether an entry is that of a name
abbrev fits : Entry → Name → Bool
fits e x = nat_eq e.offset 0 && bytes_eq e.name x

found_here : (e : Entry) (es : List Entry) (x : Name) → fits e x ≡ true → told_at (e ∷ es) x ≡ Some (told e)
found_here e es x t = ap (λ (b : Bool). option_map told (if b then Some e else entry_at es x 0)) t

found_later : (e : Entry) (es : List Entry) (x : Name) → fits e x ≡ false → told_at (e ∷ es) x ≡ told_at es x
found_later e es x t = ap (λ (b : Bool). option_map told (if b then Some e else entry_at es x 0)) t

pub append_some : (a b : List Entry) (x : Name) (k : Told) → told_at a x ≡ Some k → told_at (a ++ b) x ≡ Some k
append_some [] b x k h = cc
append_some (e ∷ a) b x k h =
    ⊎_elim (λ (t : fits e x ≡ true). found_here e (a ++ b) x t ∙ (sym (found_here e a x t) ∙ h))
    (λ (t : fits e x ≡ false). found_later e (a ++ b) x t ∙ append_some a b x k (sym (found_later e a x t) ∙ h))
    (bool_cases (fits e x))

pub append_none : (a b : List Entry) (x : Name) → told_at a x ≡ None → told_at (a ++ b) x ≡ told_at b x
append_none [] b x h = refl
append_none (e ∷ a) b x h =
    ⊎_elim (λ (t : fits e x ≡ true). let f : Some (told e) ≡ None = sym (found_here e a x t) ∙ h in cc)
    (λ (t : fits e x ≡ false). found_later e (a ++ b) x t ∙ append_none a b x (sym (found_later e a x t) ∙ h))
    (bool_cases (fits e x))

-- what is told is told by an entry of the name
pub told_among : (es : List Entry) (x : Name) (k : Told) → told_at es x ≡ Some k → (e : Entry) × Among es e × (e.name ≡ x) × (told e ≡ k)
told_among [] x k h = cc
told_among (e ∷ es) x k h =
    ⊎_elim (λ (t : fits e x ≡ true).
    let s : Some (told e) ≡ Some k = sym (found_here e es x t) ∙ h in
    let i : told e ≡ k = cc in
    (e, inl refl, (bytes_eq-Decides e.name x).0 (and_second (nat_eq e.offset 0) (bytes_eq e.name x) t), i))
    (λ (t : fits e x ≡ false). let r = told_among es x k (sym (found_later e es x t) ∙ h) in (r.0, inr r.1, r.2, r.3))
    (bool_cases (fits e x))
  where
    and_second : (a b : Bool) → a && b ≡ true → b ≡ true
    and_second true b h = h
    and_second false b h = cc

-- the entries of the present row
abbrev AllPresent : List Entry → Type 0
AllPresent [] = Unit {0}
AllPresent (e ∷ es) = (e.offset ≡ 0) × AllPresent es

pub among_told : (es : List Entry) → AllPresent es → (x : Name) → Among (map (λ (e : Entry). e.name) es) x → is_some (told_at es x) ≡ true
among_told [] p x h = absurd h
among_told (e ∷ es) p x h =
    ⊎_elim (λ (i : e.name ≡ x).
    let b : bytes_eq e.name x ≡ true = (bytes_eq-Decides e.name x).1 i in
    let t : fits e x ≡ true = rw (p.0, b) refl in
    ap is_some (found_here e es x t))
    (λ m. ⊎_elim (λ (t : fits e x ≡ true). ap is_some (found_here e es x t)) (λ (t : fits e x ≡ false). ap is_some (found_later e es x t) ∙ among_told es p.1 x m) (bool_cases (fits e x)))
    h

-- no entry of the present row is read at another offset
pub none_later : (es : List Entry) → AllPresent es → (x : Name) (j : ℕ) → entry_at es x (suc j) ≡ None
none_later [] p x j = refl
none_later (e ∷ es) p x j = rw (p.0, eqb-zero-suc j) (none_later es p.1 x j)

-- ---- under a prefix

abbrev pub renamed : Name → Entry → Entry
renamed pre e = record e { name = pre ++ e.name }

pub told_renamed : (pre : Name) (es : List Entry) (x : Name) → told_at (map (renamed pre) es) (pre ++ x) ≡ told_at es x
told_renamed pre [] x = refl
told_renamed pre (e ∷ es) x =
    let s : fits (renamed pre e) (pre ++ x) ≡ fits e x = ap (λ b. nat_eq e.offset 0 && b) (eq_under pre e.name x) in
    ⊎_elim (λ (t : fits e x ≡ true). found_here (renamed pre e) (map (renamed pre) es) (pre ++ x) (s ∙ t) ∙ sym (found_here e es x t))
    (λ (t : fits e x ≡ false). found_later (renamed pre e) (map (renamed pre) es) (pre ++ x) (s ∙ t) ∙ (told_renamed pre es x ∙ sym (found_later e es x t)))
    (bool_cases (fits e x))

words_renamed : (pre : Name) (c : Cycle) (g : Signal) (j n : ℕ) →
    map (held_entry [] c) (words_from (moved_signal pre g) j n) ≡ map (renamed pre) (map (held_entry pre c) (words_from g j n))
words_renamed pre c g j zero = refl
words_renamed pre c g j (suc n) =
    λ r. record { name = word_under pre g.name j r; offset = 0; width = g.width; low = 0; signed = false; depth = 0; value = c (word_under pre g.name j r) }
    ∷ words_renamed pre c g (suc j) n r

one_renamed : (pre : Name) (c : Cycle) (g : Signal) → (b : Bool) → nat_eq g.depth 0 ≡ b → entries_of [] c (moved_signal pre g) ≡ map (renamed pre) (entries_of pre c g)
one_renamed pre c g true h = rw h refl
one_renamed pre c g false h = rw h (ap (λ es. entry_of (moved_signal pre g) 0 ∷ es) (words_renamed pre c g 0 g.depth))

pub entries_renamed : (pre : Name) (c : Cycle) (gs : List Signal) →
    flat_map (entries_of [] c) (map (moved_signal pre) gs) ≡ map (renamed pre) (flat_map (entries_of pre c) gs)
entries_renamed pre c [] = refl
entries_renamed pre c (g ∷ gs) =
    (λ r. one_renamed pre c g (nat_eq g.depth 0) refl r ++ entries_renamed pre c gs r) ∙ sym (map_append (renamed pre) (entries_of pre c g) (flat_map (entries_of pre c) gs))

-- ---- the names that have entries

words_present : (pre : Name) (c : Cycle) (g : Signal) (j n : ℕ) → AllPresent (map (held_entry pre c) (words_from g j n))
words_present pre c g j zero = tt
words_present pre c g j (suc n) = (refl, words_present pre c g (suc j) n)

present_append : (a b : List Entry) → AllPresent a → AllPresent b → AllPresent (a ++ b)
present_append [] b p q = q
present_append (e ∷ a) b p q = (p.0, present_append a b p.1 q)

one_present : (pre : Name) (c : Cycle) (g : Signal) (b : Bool) → nat_eq g.depth 0 ≡ b → AllPresent (entries_of pre c g)
one_present pre c g true h = rw h (refl, tt)
one_present pre c g false h = rw h (refl, words_present pre c g 0 g.depth)

pub all_present : (pre : Name) (c : Cycle) (gs : List Signal) → AllPresent (flat_map (entries_of pre c) gs)
all_present pre c [] = tt
all_present pre c (g ∷ gs) = present_append (entries_of pre c g) (flat_map (entries_of pre c) gs) (one_present pre c g (nat_eq g.depth 0) refl) (all_present pre c gs)

words_named : (pre : Name) (c : Cycle) (g : Signal) (j n : ℕ) → map (λ (e : Entry). e.name) (map (held_entry pre c) (words_from g j n)) ≡ map (λ (w : Signal). w.name) (words_from g j n)
words_named pre c g j zero = refl
words_named pre c g j (suc n) = ap (λ xs. (word_name (read g.name) j).text ∷ xs) (words_named pre c g (suc j) n)

one_named : (pre : Name) (c : Cycle) (g : Signal) (b : Bool) → nat_eq g.depth 0 ≡ b → map (λ (e : Entry). e.name) (entries_of pre c g) ≡ names_of g
one_named pre c g true h = rw h refl
one_named pre c g false h = rw h (ap (λ xs. g.name ∷ xs) (words_named pre c g 0 g.depth))

pub known_is : (pre : Name) (c : Cycle) (gs : List Signal) → map (λ (e : Entry). e.name) (flat_map (entries_of pre c) gs) ≡ known gs
known_is pre c [] = refl
known_is pre c (g ∷ gs) =
    map_append (λ (e : Entry). e.name) (entries_of pre c g) (flat_map (entries_of pre c) gs)
    ∙ (λ r. one_named pre c g (nat_eq g.depth 0) refl r ++ known_is pre c gs r)

pub known_told : (pre : Name) (c : Cycle) (gs : List Signal) (x : Name) → Among (known gs) x → is_some (told_at (flat_map (entries_of pre c) gs) x) ≡ true
known_told pre c gs x h =
    among_told (flat_map (entries_of pre c) gs) (all_present pre c gs) x (subst (λ xs. Among xs x) (sym (known_is pre c gs)) h)

pub told_known : (pre : Name) (c : Cycle) (gs : List Signal) (x : Name) (k : Told) → told_at (flat_map (entries_of pre c) gs) x ≡ Some k → Among (known gs) x
told_known pre c gs x k h =
    let r = told_among (flat_map (entries_of pre c) gs) x k h in
    subst (λ xs. Among xs x) (known_is pre c gs) (subst (λ y. Among (map (λ (e : Entry). e.name) (flat_map (entries_of pre c) gs)) y) r.2 (map_among (λ (e : Entry). e.name) (flat_map (entries_of pre c) gs) r.0 r.1))
