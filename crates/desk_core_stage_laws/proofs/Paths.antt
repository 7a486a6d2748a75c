-- Different paths lead to different scopes, where no name of an instance has a dot.
use Rattle.std.proofs.Common.{◌≡◌, ℕ, ◌||◌, Bool, true, false, nat_eq, List, [], ◌∷◌, ◌++◌, Option, Some, None, sym, ap, ◌∙◌, refl, subst, append_assoc, append-nil, map, inl, inr, ⊎_elim}
use Rattle.std.proofs.lemmas.Bool.Decides.{Decides-eqb}
use Rattle.vlog_tree.specs.declared.module.Module.{Module}
use Rattle.vlog_tree_runs.specs.Places.{Name, Among}
use Rattle.vlog_tree_runs.specs.Contents.{Inner, instances_in}
use Rattle.vlog_tree_runs.specs.Scopes.{Scope, module_at, instance_at, child_by, scope_in, scope_from, top_scope, scope_at, inner_prefix, params_of, overriding}
use Rattle.elab_flat_laws.specs.Uses.{has_dot}
use Rattle.elab_flat_laws.specs.Flattened.{HaveSimpleNames}
use Rattle.elab_flat_laws.proofs.Apart.{joined, module_found, instance_found, none_stays}
use Rattle.elab_flat_faults.specs.FlatStands.{AreDistinct}

abbrev AreSimple : List Name → Type 0
AreSimple [] = Unit {0}
AreSimple (x ∷ path) = (has_dot x ≡ false) × AreSimple path

pub or_left : (a b : Bool) → (a || b) ≡ false → a ≡ false
or_left true b h = cc
or_left false b h = refl

pub or_right : (a b : Bool) → (a || b) ≡ false → b ≡ false
or_right true b h = cc
or_right false b h = h

not_dot : (n : ℕ) → nat_eq n 46 ≡ false → n ≡ 46 → ⊥
not_dot n h e = let t : nat_eq n 46 ≡ true = (Decides-eqb n 46).1 e in cc

-- a name up to its dot, and what follows it
up_to_dot : (a b r s : Name) → has_dot a ≡ false → has_dot b ≡ false → a ++ 46 ∷ r ≡ b ++ 46 ∷ s → (a ≡ b) × (r ≡ s)
up_to_dot [] [] r s f g h = (refl, cc)
up_to_dot [] (n ∷ b) r s f g h = let e : n ≡ 46 = cc in absurd (not_dot n (or_left (nat_eq n 46) (has_dot b) g) e)
up_to_dot (n ∷ a) [] r s f g h = let e : n ≡ 46 = cc in absurd (not_dot n (or_left (nat_eq n 46) (has_dot a) f) e)
up_to_dot (n ∷ a) (m ∷ b) r s f g h =
    let e : n ≡ m = cc in
    let t : a ++ 46 ∷ r ≡ b ++ 46 ∷ s = cc in
    let k = up_to_dot a b r s (or_right (nat_eq n 46) (has_dot a) f) (or_right (nat_eq m 46) (has_dot b) g) t in
    (λ i. e i ∷ k.0 i, k.1)

not_empty : (x r : Name) → x ++ 46 ∷ r ≡ [] → ⊥
not_empty [] r h = cc
not_empty (n ∷ x) r h = cc

one_path : (p q : List Name) → AreSimple p → AreSimple q → joined p ≡ joined q → p ≡ q
one_path [] [] f g h = refl
one_path [] (y ∷ q) f g h = absurd (not_empty y (joined q) (sym h))
one_path (x ∷ p) [] f g h = absurd (not_empty x (joined p) h)
one_path (x ∷ p) (y ∷ q) f g h =
    let k = up_to_dot x y (joined p) (joined q) f.0 g.0 h in
    let r = one_path p q f.1 g.1 k.1 in
    λ i. k.0 i ∷ r i

-- the way down a path: its names are simple, and the prefix has them
record Way (s t : Scope) (path : List Name) : Type 0 where
  simple : AreSimple path
  prefix : t.prefix ≡ s.prefix ++ joined path

module _ (ms : List Module) (simple : HaveSimpleNames ms) (t : Scope) where
  longer : (s u : Scope) (x : Name) (path : List Name) → has_dot x ≡ false → u.prefix ≡ inner_prefix s.prefix x → Way u t path → Way s t (x ∷ path)
  longer s u x path d e w = record {
    simple = (d, w.simple);
    prefix = w.prefix
        ∙ (ap (λ y. y ++ joined path) (e ∙ append_assoc s.prefix x (46 ∷ []))
        ∙ (append_assoc s.prefix (x ++ 46 ∷ []) (joined path) ∙ ap (λ y. s.prefix ++ y) (append_assoc x (46 ∷ []) (joined path))));
  }

  by_module : (s : Scope) (x : Name) (path : List Name) → Among ms s.module' → ((u : Scope) → Among ms u.module' → scope_from ms (Some u) path ≡ Some t → Way u t path) →
      (i : Inner) → Among (instances_in s.module') i × (i.name ≡ x) → (o : Option Module) → module_at ms i.of_module ≡ o → scope_from ms (scope_in s i o) path ≡ Some t → Way s t (x ∷ path)
  by_module s x path h rest i f None e k = let z : None ≡ Some t = sym (none_stays ms path) ∙ k in cc
  by_module s x path h rest i f (Some m) e k =
      let u : Scope = record { prefix = inner_prefix s.prefix i.name; module' = m; params = params_of m (overriding m i.overrides) s.params } in
      longer s u x path (subst (λ y. has_dot y ≡ false) f.1 ((simple s.module' h).instances i f.0)) (ap (inner_prefix s.prefix) f.1) (rest u (module_found ms i.of_module m e) k)

  by_instance : (s : Scope) (x : Name) (path : List Name) → Among ms s.module' → ((u : Scope) → Among ms u.module' → scope_from ms (Some u) path ≡ Some t → Way u t path) →
      (o : Option Inner) → instance_at (instances_in s.module') x ≡ o → scope_from ms (child_by ms s o) path ≡ Some t → Way s t (x ∷ path)
  by_instance s x path h rest None e k = let z : None ≡ Some t = sym (none_stays ms path) ∙ k in cc
  by_instance s x path h rest (Some i) e k = by_module s x path h rest i (instance_found (instances_in s.module') x i e) (module_at ms i.of_module) refl k

  way : (path : List Name) (s : Scope) → Among ms s.module' → scope_from ms (Some s) path ≡ Some t → Way s t path
  way [] s h e =
      let k : s ≡ t = cc in
      record { simple = tt; prefix = ap (λ (v : Scope). v.prefix) (sym k) ∙ sym (append-nil s.prefix) }
  way (x ∷ path) s h e = by_instance s x path h (λ u i k. way path u i k) (instance_at (instances_in s.module') x) refl e

  from_top : (top : Name) (path : List Name) (o : Option Module) → module_at ms top ≡ o → scope_from ms (top_scope o) path ≡ Some t → AreSimple path × (t.prefix ≡ joined path)
  from_top top path None e k = let z : None ≡ Some t = sym (none_stays ms path) ∙ k in cc
  from_top top path (Some m) e k =
      let w = way path (record { prefix = []; module' = m; params = params_of m [] [] }) (module_found ms top m e) k in
      (w.simple, w.prefix)

  -- the path that leads to a scope
  same_path : (top : Name) (p q : List Name) → scope_at ms top p ≡ Some t → scope_at ms top q ≡ Some t → p ≡ q
  same_path top p q h k =
      let a = from_top top p (module_at ms top) refl h in
      let b = from_top top q (module_at ms top) refl k in
      one_path p q a.0 b.0 (sym a.1 ∙ b.1)

-- no scope stands twice
abbrev pub AreOnce : List Scope → Type 0
AreOnce [] = Unit {0}
AreOnce (s ∷ ss) = (Among ss s → ⊥) × AreOnce ss

led : (ms : List Module) (top : Name) (ss : List Scope) (paths : List (List Name)) → map Some ss ≡ map (scope_at ms top) paths → (s : Scope) → Among ss s →
    (path : List Name) × Among paths path × (scope_at ms top path ≡ Some s)
led ms top [] paths e s h = absurd h
led ms top (u ∷ ss) [] e s h = cc
led ms top (u ∷ ss) (p ∷ paths) e s h =
    let here : Some u ≡ scope_at ms top p = cc in
    let later : map Some ss ≡ map (scope_at ms top) paths = cc in
    ⊎_elim (λ (i : u ≡ s). (p, inl refl, sym here ∙ ap Some i)) (λ k. let r = led ms top ss paths later s k in (r.0, inr r.1, r.2)) h

pub are_once : (ms : List Module) → HaveSimpleNames ms → (top : Name) (ss : List Scope) (paths : List (List Name)) → map Some ss ≡ map (scope_at ms top) paths → AreDistinct paths → AreOnce ss
are_once ms simple top [] paths e d = tt
are_once ms simple top (u ∷ ss) [] e d = cc
are_once ms simple top (u ∷ ss) (p ∷ paths) e d =
    let here : Some u ≡ scope_at ms top p = cc in
    let later : map Some ss ≡ map (scope_at ms top) paths = cc in
    (λ h. let r = led ms top ss paths later u h in d.0 (subst (λ q. Among paths q) (same_path ms simple u top r.0 p r.2 (sym here)) r.1), are_once ms simple top ss paths later d.1)
