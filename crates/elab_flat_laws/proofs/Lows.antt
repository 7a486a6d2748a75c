-- A scope's signals keep their lowest bits, and the scope moves into the list of all signals.
use Rattle.std.proofs.Common.{◌≡◌, Bool, true, false, List, [], ◌∷◌, ◌++◌, Option, Some, None, sym, ap, ◌∙◌, refl, inl, inr, ⊎_elim, map}
use Rattle.std.specs.Prelude.{if◌then◌else◌, is_some, unwrap_or}
use Rattle.std.specs.Option.{option_map}
use Rattle.std.specs.List.{flat_map}
use Rattle.std.specs.Str.{bytes_eq}
use Rattle.std.proofs.lemmas.Slice.Eq.{bytes_eq-Decides}
use Rattle.vlog_tree.specs.Valuation.{entry_at, meant}
use Rattle.vlog_tree_runs.specs.declared.flat.Signal.{Signal}
use Rattle.vlog_tree_runs.specs.Places.{Name, Among, entries_of}
use Rattle.vlog_tree_runs.specs.Blocks.{signal_at}
use Rattle.vlog_tree_runs.specs.Scopes.{Scope, place_of}
use Rattle.elab_flat_laws.specs.Moved.{moved_signal}
use Rattle.elab_flat_laws.specs.Uses.{has_signal, known, AreConstants}
use Rattle.elab_flat_laws.specs.Flattened.{flat_signals, AreApart}
use Rattle.elab_flat_laws.specs.Laws.{MovesInto}
use Rattle.elab_flat_laws.proofs.Lists.{bool_cases, eq_under, none_not_some}
use Rattle.elab_flat_laws.proofs.Finding.{bare, signal_known, told_none, name_moves, constants_move}

at_append : (xs ys : List Signal) (z : Name) → signal_at xs z ≡ None → signal_at (xs ++ ys) z ≡ signal_at ys z
at_append [] ys z h = refl
at_append (g ∷ xs) ys z h =
    ⊎_elim (λ (t : bytes_eq g.name z ≡ true). let e : Some g ≡ None = sym (ap (λ (b : Bool). if b then Some g else signal_at xs z) t) ∙ h in cc)
    (λ (t : bytes_eq g.name z ≡ false).
    ap (λ (b : Bool). if b then Some g else signal_at (xs ++ ys) z) t ∙ at_append xs ys z (sym (ap (λ (b : Bool). if b then Some g else signal_at xs z) t) ∙ h))
    (bool_cases (bytes_eq g.name z))

at_front : (xs ys : List Signal) (z : Name) (k : Signal) → signal_at xs z ≡ Some k → signal_at (xs ++ ys) z ≡ Some k
at_front [] ys z k h = cc
at_front (g ∷ xs) ys z k h =
    ⊎_elim (λ (t : bytes_eq g.name z ≡ true).
    ap (λ (b : Bool). if b then Some g else signal_at (xs ++ ys) z) t ∙ (sym (ap (λ (b : Bool). if b then Some g else signal_at xs z) t) ∙ h))
    (λ (t : bytes_eq g.name z ≡ false).
    ap (λ (b : Bool). if b then Some g else signal_at (xs ++ ys) z) t ∙ at_front xs ys z k (sym (ap (λ (b : Bool). if b then Some g else signal_at xs z) t) ∙ h))
    (bool_cases (bytes_eq g.name z))

at_moved : (pre : Name) (gs : List Signal) (x : Name) → signal_at (map (moved_signal pre) gs) (pre ++ x) ≡ option_map (moved_signal pre) (signal_at gs x)
at_moved pre [] x = refl
at_moved pre (g ∷ gs) x =
    ⊎_elim (λ (t : bytes_eq g.name x ≡ true). rw (eq_under pre g.name x, t) refl)
    (λ (t : bytes_eq g.name x ≡ false). rw (eq_under pre g.name x, t) (at_moved pre gs x))
    (bool_cases (bytes_eq g.name x))

-- a signal that is found stands in the list
pub at_among : (gs : List Signal) (z : Name) (k : Signal) → signal_at gs z ≡ Some k → Among gs k × (k.name ≡ z)
at_among [] z k h = cc
at_among (g ∷ gs) z k h =
    ⊎_elim (λ (t : bytes_eq g.name z ≡ true).
    let s : Some g ≡ Some k = sym (ap (λ (b : Bool). if b then Some g else signal_at gs z) t) ∙ h in
    let i : g ≡ k = cc in
    (inl i, ap (λ (u : Signal). u.name) (sym i) ∙ (bytes_eq-Decides g.name z).0 t))
    (λ (t : bytes_eq g.name z ≡ false). let r = at_among gs z k (sym (ap (λ (b : Bool). if b then Some g else signal_at gs z) t) ∙ h) in (inr r.0, r.1))
    (bool_cases (bytes_eq g.name z))

moved_in : (pre : Name) (gs : List Signal) (z : Name) (k : Signal) → signal_at (map (moved_signal pre) gs) z ≡ Some k → (y : Name) × (has_signal gs y ≡ true) × (pre ++ y ≡ z)
moved_in pre [] z k h = cc
moved_in pre (g ∷ gs) z k h =
    ⊎_elim (λ (t : bytes_eq (pre ++ g.name) z ≡ true).
    let b : bytes_eq g.name g.name ≡ true = (bytes_eq-Decides g.name g.name).1 refl in
    (g.name, rw b refl, (bytes_eq-Decides (pre ++ g.name) z).0 t))
    (λ (t : bytes_eq (pre ++ g.name) z ≡ false).
    let r = moved_in pre gs z k (sym (ap (λ (b : Bool). if b then Some (moved_signal pre g) else signal_at (map (moved_signal pre) gs) z) t) ∙ h) in
    (r.0, later g gs r.0 r.1, r.2))
    (bool_cases (bytes_eq (pre ++ g.name) z))
  where
    later : (g : Signal) (gs : List Signal) (y : Name) → has_signal gs y ≡ true → has_signal (g ∷ gs) y ≡ true
    later g gs y h = ⊎_elim (λ (t : bytes_eq g.name y ≡ true). rw t refl) (λ (t : bytes_eq g.name y ≡ false). rw t h) (bool_cases (bytes_eq g.name y))

abbrev own_signal : Scope → Name → Option Signal
own_signal s x = option_map (moved_signal s.prefix) (signal_at (place_of s).signals x)

is_some_map : {A B : Type 0} (f : A → B) (o : Option A) → is_some o ≡ true → is_some (option_map f o) ≡ true
is_some_map f None h = h
is_some_map f (Some a) h = refl

same_signal : (s t : Scope) (x : Name) → t ≡ s → signal_at (flat_signals t) (s.prefix ++ x) ≡ own_signal s x
same_signal s t x e = ap (λ (u : Scope). signal_at (flat_signals u) (s.prefix ++ x)) e ∙ at_moved s.prefix (place_of s).signals x

found : (all : List Scope) → AreApart all → (s : Scope) (x : Name) → Among all s → has_signal (place_of s).signals x ≡ true →
    (t : Scope) (ss : List Scope) → Among all t → Among (t ∷ ss) s → (Among ss s → signal_at (flat_map flat_signals ss) (s.prefix ++ x) ≡ own_signal s x) →
    (o : Option Signal) → signal_at (flat_signals t) (s.prefix ++ x) ≡ o → signal_at (flat_map flat_signals (t ∷ ss)) (s.prefix ++ x) ≡ own_signal s x
found all apart s x here d t ss there h rest None e =
    at_append (flat_signals t) (flat_map flat_signals ss) (s.prefix ++ x) e
    ∙ ⊎_elim (λ (i : t ≡ s). absurd (none_not_some (own_signal s x) (is_some_map (moved_signal s.prefix) (signal_at (place_of s).signals x) d) (sym (same_signal s t x i) ∙ e))) rest h
found all apart s x here d t ss there h rest (Some k) e =
    let r = moved_in t.prefix (place_of t).signals (s.prefix ++ x) k e in
    let i : t ≡ s = apart s t here there x r.0 (signal_known (place_of s).signals x d) (signal_known (place_of t).signals r.0 r.1) r.2 in
    at_front (flat_signals t) (flat_map flat_signals ss) (s.prefix ++ x) k e ∙ (sym e ∙ same_signal s t x i)

pub finds : (all : List Scope) → AreApart all → (s : Scope) (x : Name) → Among all s → has_signal (place_of s).signals x ≡ true →
    (ss : List Scope) → ((t : Scope) → Among ss t → Among all t) → Among ss s → signal_at (flat_map flat_signals ss) (s.prefix ++ x) ≡ own_signal s x
finds all apart s x here d [] inside h = absurd h
finds all apart s x here d (t ∷ ss) inside h =
    found all apart s x here d t ss (inside t (inl refl)) h (λ m. finds all apart s x here d ss (λ u k. inside u (inr k)) m)
    (signal_at (flat_signals t) (s.prefix ++ x)) refl

low_by : (pre : Name) (o : Option Signal) → unwrap_or (option_map (λ (g : Signal). g.low) (option_map (moved_signal pre) o)) 0 ≡ unwrap_or (option_map (λ (g : Signal). g.low) o) 0
low_by pre None = refl
low_by pre (Some g) = refl

pub scope_moves : (ss : List Scope) → AreApart ss → (s : Scope) → Among ss s → AreConstants s.params →
    ((x : Name) → Among (known (place_of s).signals) x → entry_at s.params x 0 ≡ None) → MovesInto (place_of s) (bare (flat_map flat_signals ss))
scope_moves ss apart s h constants distinct = record {
  names = λ c. record {
    names = λ x d none. name_moves ss apart s h distinct c x.text x.offset d (told_none meant (entry_at s.params x.text x.offset) none);
    constants = λ x k e. constants_move s.params (flat_map (entries_of s.prefix c) (place_of s).signals) constants x k e;
  };
  lows = λ x d.
      ap (λ (o : Option Signal). unwrap_or (option_map (λ (g : Signal). g.low) o) 0) (finds ss apart s x h d.1 ss (λ t k. k) h)
      ∙ low_by s.prefix (signal_at (place_of s).signals x);
  outer = refl;
}
