-- Different instances have different names: a name without dots after a path of such names is read in one way.
use Rattle.std.proofs.Common.{arith, ◌≡◌, ℕ, zero, suc, ◌+◌, ◌<◌, ◌≤◌, ◌^◌, ◌||◌, Bool, true, false, nat_eq, List, [], ◌∷◌, ◌++◌, Option, Some, None, sym, ap, ◌∙◌, refl, inl, inr, ⊎_elim, subst, append_assoc, map}
use Rattle.std.specs.Prelude.{if◌then◌else◌, codes}
use Rattle.std.specs.Fmt.{decimal}
use Rattle.std.specs.Str.{bytes_eq}
use Rattle.std.specs.Str.Parse.{AllDigits}
use Rattle.std.proofs.lemmas.Fmt.{decimal_is_IsNumeral}
use Rattle.std.proofs.lemmas.Str.Parse.{digit_from_value}
use Rattle.std.proofs.lemmas.Slice.Eq.{bytes_eq-Decides}
use Rattle.std.proofs.lemmas.Bool.Decides.{Decides-eqb}
use Rattle.std.proofs.lemmas.List.{append-nil}
use Rattle.vlog_tree.specs.declared.module.Module.{Module}
use Rattle.vlog_tree.specs.Valuation.{word_name}
use Rattle.vlog_tree_runs.specs.declared.flat.Signal.{Signal}
use Rattle.vlog_tree_runs.specs.Places.{Name, Among, read, words_from}
use Rattle.vlog_tree_runs.specs.Contents.{signals_in, Inner, instances_in}
use Rattle.vlog_tree_runs.specs.Scopes.{Scope, place_of, signal_of, module_at, instance_at, child_by, scope_in, step, scope_from, top_scope, scope_at, inner_prefix, params_of, overriding}
use Rattle.elab_flat_laws.specs.Uses.{has_dot, names_of, known}
use Rattle.elab_flat_laws.specs.Flattened.{HaveSimpleNames, AreShallow, AreApart, AreScopes}
use Rattle.elab_flat_laws.proofs.Lists.{bool_cases, among_map, among_flat}

if_true : {A : Type 0} (b : Bool) (x y : A) → b ≡ true → (if b then x else y) ≡ x
if_true b x y e = rw e refl

if_false : {A : Type 0} (b : Bool) (x y : A) → b ≡ false → (if b then x else y) ≡ y
if_false b x y e = rw e refl

-- the names of a path, each followed by a dot
abbrev pub joined : List Name → Name
joined [] = []
joined (x ∷ path) = x ++ (46 ∷ joined path)

abbrev AreSimple : List Name → Type 0
AreSimple [] = Unit {0}
AreSimple (x ∷ path) = (has_dot x ≡ false) × AreSimple path

or_left : (a b : Bool) → (a || b) ≡ false → a ≡ false
or_left true b h = cc
or_left false b h = refl

or_right : (a b : Bool) → (a || b) ≡ false → b ≡ false
or_right true b h = cc
or_right false b h = h

dot_in : (x y : Name) → has_dot (x ++ 46 ∷ y) ≡ false → ⊥
dot_in [] y h = cc
dot_in (n ∷ x) y h = dot_in x y (or_right (nat_eq n 46) (has_dot (x ++ 46 ∷ y)) h)

not_dot : (n : ℕ) → nat_eq n 46 ≡ false → n ≡ 46 → ⊥
not_dot n h e = let t : nat_eq n 46 ≡ true = (Decides-eqb n 46).1 e in cc

-- up to the first dot
first_dot : (a b r s : Name) → has_dot a ≡ false → has_dot b ≡ false → a ++ 46 ∷ r ≡ b ++ 46 ∷ s → (a ≡ b) × (r ≡ s)
first_dot [] [] r s f g h = (refl, cc)
first_dot [] (n ∷ b) r s f g h = let e : n ≡ 46 = cc in absurd (not_dot n (or_left (nat_eq n 46) (has_dot b) g) e)
first_dot (n ∷ a) [] r s f g h = let e : n ≡ 46 = cc in absurd (not_dot n (or_left (nat_eq n 46) (has_dot a) f) e)
first_dot (n ∷ a) (m ∷ b) r s f g h =
    let e : n ≡ m = cc in
    let t : a ++ 46 ∷ r ≡ b ++ 46 ∷ s = cc in
    let k = first_dot a b r s (or_right (nat_eq n 46) (has_dot a) f) (or_right (nat_eq m 46) (has_dot b) g) t in
    (λ i. e i ∷ k.0 i, k.1)

-- a path and a name are read in one way
one_reading : (p q : List Name) (x y : Name) → AreSimple p → AreSimple q → has_dot x ≡ false → has_dot y ≡ false → joined p ++ x ≡ joined q ++ y → p ≡ q
one_reading [] [] x y f g a b h = refl
one_reading [] (z ∷ q) x y f g a b h =
    let e : x ≡ z ++ 46 ∷ (joined q ++ y) = h ∙ append_assoc z (46 ∷ joined q) y in
    absurd (dot_in z (joined q ++ y) (rw e at a))
one_reading (z ∷ p) [] x y f g a b h =
    let e : y ≡ z ++ 46 ∷ (joined p ++ x) = sym h ∙ append_assoc z (46 ∷ joined p) x in
    absurd (dot_in z (joined p ++ x) (rw e at b))
one_reading (z ∷ p) (w ∷ q) x y f g a b h =
    let e : z ++ 46 ∷ (joined p ++ x) ≡ w ++ 46 ∷ (joined q ++ y) = sym (append_assoc z (46 ∷ joined p) x) ∙ (h ∙ append_assoc w (46 ∷ joined q) y) in
    let k = first_dot z w (joined p ++ x) (joined q ++ y) f.0 g.0 e in
    let r = one_reading p q x y f.1 g.1 a b k.1 in
    λ i. k.0 i ∷ r i

pub module_found : (ms : List Module) (x : Name) (m : Module) → module_at ms x ≡ Some m → Among ms m
module_found [] x m h = cc
module_found (n ∷ ms) x m h =
    ⊎_elim (λ (t : bytes_eq n.name x ≡ true). let e : Some n ≡ Some m = sym (if_true (bytes_eq n.name x) (Some n) (module_at ms x) t) ∙ h in let k : n ≡ m = cc in inl k)
    (λ (t : bytes_eq n.name x ≡ false). inr (module_found ms x m (sym (if_false (bytes_eq n.name x) (Some n) (module_at ms x) t) ∙ h)))
    (bool_cases (bytes_eq n.name x))

pub instance_found : (js : List Inner) (x : Name) (i : Inner) → instance_at js x ≡ Some i → Among js i × (i.name ≡ x)
instance_found [] x i h = cc
instance_found (n ∷ js) x i h =
    ⊎_elim
    (λ (t : bytes_eq n.name x ≡ true).
    let e : Some n ≡ Some i = sym (if_true (bytes_eq n.name x) (Some n) (instance_at js x) t) ∙ h in
    let k : n ≡ i = cc in
    (inl k, ap (λ (j : Inner). j.name) (sym k) ∙ (bytes_eq-Decides n.name x).0 t))
    (λ (t : bytes_eq n.name x ≡ false).
    let r = instance_found js x i (sym (if_false (bytes_eq n.name x) (Some n) (instance_at js x) t) ∙ h) in (inr r.0, r.1))
    (bool_cases (bytes_eq n.name x))

pub none_stays : (ms : List Module) (path : List Name) → scope_from ms None path ≡ None
none_stays ms [] = refl
none_stays ms (x ∷ path) = none_stays ms path

-- one step down: the name is simple, and the prefix has it
record Down (ms : List Module) (s u : Scope) (x : Name) : Type 0 where
  inside : Among ms u.module'
  simple : has_dot x ≡ false
  prefix : u.prefix ≡ s.prefix ++ (x ++ 46 ∷ [])

down_in : (ms : List Module) → HaveSimpleNames ms → (s u : Scope) (x : Name) → Among ms s.module' → (i : Inner) → Among (instances_in s.module') i × (i.name ≡ x) →
    (o : Option Module) → module_at ms i.of_module ≡ o → scope_in s i o ≡ Some u → Down ms s u x
down_in ms simple s u x h i f None e k = cc
down_in ms simple s u x h i f (Some m) e k =
    let r : record { prefix = inner_prefix s.prefix i.name; module' = m; params = params_of m (overriding m i.overrides) s.params } ≡ u = cc in
    record {
      inside = subst (λ (v : Scope). Among ms v.module') r (module_found ms i.of_module m e);
      simple = subst (λ y. has_dot y ≡ false) f.1 ((simple s.module' h).instances i f.0);
      prefix = ap (λ (v : Scope). v.prefix) (sym r) ∙ (append_assoc s.prefix i.name (46 ∷ []) ∙ ap (λ y. s.prefix ++ (y ++ 46 ∷ [])) f.1);
    }

down : (ms : List Module) → HaveSimpleNames ms → (s u : Scope) (x : Name) → Among ms s.module' → (o : Option Inner) → instance_at (instances_in s.module') x ≡ o → child_by ms s o ≡ Some u → Down ms s u x
down ms simple s u x h None e k = cc
down ms simple s u x h (Some i) e k = down_in ms simple s u x h i (instance_found (instances_in s.module') x i e) (module_at ms i.of_module) refl k

-- the way down a path
record Reached (ms : List Module) (s t : Scope) (path : List Name) : Type 0 where
  inside : Among ms t.module'
  simple : AreSimple path
  prefix : t.prefix ≡ s.prefix ++ joined path

go : (ms : List Module) (s u t : Scope) (x : Name) (path : List Name) → Down ms s u x → Reached ms u t path → Reached ms s t (x ∷ path)
go ms s u t x path d r = record {
  inside = r.inside;
  simple = (d.simple, r.simple);
  prefix = r.prefix ∙ (ap (λ y. y ++ joined path) d.prefix ∙ (append_assoc s.prefix (x ++ 46 ∷ []) (joined path) ∙ ap (λ y. s.prefix ++ y) (append_assoc x (46 ∷ []) (joined path))));
}

reach_by : (ms : List Module) → HaveSimpleNames ms → (s t : Scope) (x : Name) (path : List Name) → Among ms s.module' →
    ((u : Scope) → Among ms u.module' → scope_from ms (Some u) path ≡ Some t → Reached ms u t path) →
    (o : Option Scope) → step ms (Some s) x ≡ o → scope_from ms o path ≡ Some t → Reached ms s t (x ∷ path)
reach_by ms simple s t x path h rest None e k = let z : None ≡ Some t = sym (none_stays ms path) ∙ k in cc
reach_by ms simple s t x path h rest (Some u) e k =
    let d = down ms simple s u x h (instance_at (instances_in s.module') x) refl e in
    go ms s u t x path d (rest u d.inside k)

reach : (ms : List Module) → HaveSimpleNames ms → (t : Scope) (path : List Name) (s : Scope) → Among ms s.module' → scope_from ms (Some s) path ≡ Some t → Reached ms s t path
reach ms simple t [] s h e =
    let k : s ≡ t = cc in
    record { inside = subst (λ (v : Scope). Among ms v.module') k h; simple = tt; prefix = ap (λ (v : Scope). v.prefix) (sym k) ∙ sym (append-nil s.prefix) }
reach ms simple t (x ∷ path) s h e =
    reach_by ms simple s t x path h (λ u i k. reach ms simple t path u i k) (step ms (Some s) x) refl e

-- what stands at a path from the top
record AtPath (ms : List Module) (t : Scope) (path : List Name) : Type 0 where
  inside : Among ms t.module'
  simple : AreSimple path
  prefix : t.prefix ≡ joined path

from_top : (ms : List Module) → HaveSimpleNames ms → (top : Name) (t : Scope) (path : List Name) → (o : Option Module) → module_at ms top ≡ o → scope_from ms (top_scope o) path ≡ Some t → AtPath ms t path
from_top ms simple top t path None e k = let z : None ≡ Some t = sym (none_stays ms path) ∙ k in cc
from_top ms simple top t path (Some m) e k =
    let r = reach ms simple t path (record { prefix = []; module' = m; params = params_of m [] [] }) (module_found ms top m e) k in
    record { inside = r.inside; simple = r.simple; prefix = r.prefix }

at_path : (ms : List Module) → HaveSimpleNames ms → (top : Name) (t : Scope) (path : List Name) → scope_at ms top path ≡ Some t → AtPath ms t path
at_path ms simple top t path k = from_top ms simple top t path (module_at ms top) refl k

-- the names of a scope's signals and of their words are simple
append_dot : (x y : Name) → has_dot x ≡ false → has_dot y ≡ false → has_dot (x ++ y) ≡ false
append_dot [] y h k = k
append_dot (n ∷ x) y h k = rw (or_left (nat_eq n 46) (has_dot x) h) (append_dot x y (or_right (nat_eq n 46) (has_dot x) h) k)

digits_dot : (ds : Name) → AllDigits 10 ds → has_dot ds ≡ false
digits_dot [] h = refl
digits_dot (c ∷ cs) h =
    let low : 48 ≤ c = (digit_from_value c h.0).0 in
    ⊎_elim (λ (t : nat_eq c 46 ≡ true). let e : c ≡ 46 = (Decides-eqb c 46).0 t in absurd (omega (arith, low, e)))
    (λ (t : nat_eq c 46 ≡ false). rw t (digits_dot cs h.1)) (bool_cases (nat_eq c 46))

word_simple : (x : Name) (j : ℕ) → j < 2 ^ 64 → has_dot x ≡ false → has_dot (word_name (read x) j).text ≡ false
word_simple x j l h = append_dot (x ++ codes "$") (decimal j) (append_dot x (codes "$") h refl) (digits_dot (decimal j) (decimal_is_IsNumeral j l).0.1)

words_simple : (g : Signal) (j n : ℕ) → j + n ≤ 64 → has_dot g.name ≡ false → (x : Name) → Among (map (λ (w : Signal). w.name) (words_from g j n)) x → has_dot x ≡ false
words_simple g j zero l h x k = absurd k
words_simple g j (suc n) l h x k =
    ⊎_elim (λ (i : (word_name (read g.name) j).text ≡ x). subst (λ y. has_dot y ≡ false) i (word_simple g.name j (omega (arith, l)) h))
    (λ m. words_simple g (suc j) n (omega (arith, l)) h x m) k

one_simple : (g : Signal) → g.depth ≤ 64 → has_dot g.name ≡ false → (x : Name) → (b : Bool) → nat_eq g.depth 0 ≡ b → Among (names_of g) x → has_dot x ≡ false
one_simple g l h x true e k =
    let m : Among (g.name ∷ []) x = rw e at k in
    ⊎_elim (λ (i : g.name ≡ x). subst (λ y. has_dot y ≡ false) i h) (λ z. absurd z) m
one_simple g l h x false e k =
    let m : Among (g.name ∷ map (λ (w : Signal). w.name) (words_from g 0 g.depth)) x = rw e at k in
    ⊎_elim (λ (i : g.name ≡ x). subst (λ y. has_dot y ≡ false) i h) (λ z. words_simple g 0 g.depth (omega (arith, l)) h x z) m

known_simple : (ms : List Module) → HaveSimpleNames ms → (ss : List Scope) → AreShallow ss → (s : Scope) → Among ss s → Among ms s.module' → (x : Name) → Among (known (place_of s).signals) x → has_dot x ≡ false
known_simple ms simple ss shallow s h i x k =
    let f = among_flat names_of (place_of s).signals x k in
    let q = among_map (signal_of s.params) (signals_in s.module') f.0 f.1 in
    let d : has_dot f.0.name ≡ false = subst (λ (g : Signal). has_dot g.name ≡ false) q.2 ((simple s.module' i).signals q.0 q.1) in
    one_simple f.0 (shallow s f.0 h f.1) d x (nat_eq f.0.depth 0) refl f.2

pub are_apart : (ms : List Module) (top : Name) (ss : List Scope) → HaveSimpleNames ms → AreShallow ss → AreScopes ms top ss → AreApart ss
are_apart ms top ss simple shallow are s t h k x y d i e =
    let p = are.only s h in
    let q = are.only t k in
    let a = at_path ms simple top s p.0 p.1 in
    let b = at_path ms simple top t q.0 q.1 in
    let f = known_simple ms simple ss shallow s h a.inside x d in
    let g = known_simple ms simple ss shallow t k b.inside y i in
    let j : joined q.0 ++ y ≡ joined p.0 ++ x = ap (λ z. z ++ y) (sym b.prefix) ∙ (e ∙ ap (λ z. z ++ x) a.prefix) in
    let same : q.0 ≡ p.0 = one_reading q.0 p.0 y x b.simple a.simple g f j in
    let z : Some t ≡ Some s = sym q.1 ∙ (ap (λ z. scope_at ms top z) same ∙ p.1) in
    cc
