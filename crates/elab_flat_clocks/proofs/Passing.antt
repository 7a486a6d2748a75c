-- Which expressions connections don't pass on.
use Rattle.std.proofs.Common.{◌≡◌, true, false, ◌&&◌, List, [], ◌∷◌, map, Option, Some, None, inl, inr, ⊎_elim, refl, sym, ap, subst, ◌∙◌}
use Rattle.std.specs.Prelude.{nat_eq, ◌↔◌}
use Rattle.std.proofs.lemmas.Bool.{cases_Bool, and_parts, eqb-true, eq-eqb}
use Rattle.vlog_tree.specs.declared.module.Module.{Module}
use Rattle.vlog_tree.specs.declared.expr.Expr.{Expr}
use Rattle.vlog_tree.specs.declared.expr.Expr.TheVariants as e
use Rattle.vlog_tree.specs.declared.expr.Name.{Name as Read}
use Rattle.vlog_tree_runs.specs.Places.{Name, Among}
use Rattle.vlog_tree_runs.specs.Contents.{Decl, signals_in, port_names, Inner, instances_in}
use Rattle.vlog_tree_runs.specs.Scopes.{Scope, Given, given_to, child, decl_at, width_in}
use Rattle.elab_flat_faults.specs.Clocks.{IsBitInput}
use Rattle.elab_flat_faults.specs.FlatStands.{PassesOn}
use Rattle.elab_flat_laws.proofs.Lists.{among_append, append_left, append_right, among_flat, flat_among}
use Rattle.elab_flat_clocks.specs.Passing.{is_name, is_bit_decl, passes_on, kept_given, kept_to, kept_into, IsKeptBy, IsKept}

-- ---- inputs of one bit

module _ (t : Scope) (x : Name) where
  bit_by : (o : Option Decl) → decl_at (signals_in t.module') x ≡ o → is_bit_decl t.params o ≡ true → IsBitInput t x
  bit_by None at h = cc
  bit_by (Some d) at h =
      let r = and_parts d.input (nat_eq (width_in d.shape.range 1 t.params) 1) h in
      record { decl = d; declared = at; input = r.0; one_bit = eqb-true (width_in d.shape.range 1 t.params) 1 r.1 }

  is_bit : is_bit_decl t.params (decl_at (signals_in t.module') x) ≡ true → IsBitInput t x
  is_bit h = bit_by (decl_at (signals_in t.module') x) refl h

  bit_is : IsBitInput t x → is_bit_decl t.params (decl_at (signals_in t.module') x) ≡ true
  bit_is b = ap (is_bit_decl t.params) b.declared ∙ (λ i. b.input i && eq-eqb (width_in b.decl.shape.range 1 t.params) 1 b.one_bit i)

-- ---- one connection

name_of : (a : Expr) → is_name a ≡ true → (x : Read) × (a ≡ e.Name x)
name_of (e.Name x) h = (x, refl)
name_of a h = cc

module _ (t : Scope) (d : Given) where
  passing : passes_on t d ≡ true → PassesOn t d
  passing h =
      let r = and_parts (is_name d.value) (is_bit_decl t.params (decl_at (signals_in t.module') d.name)) h in
      let n = name_of d.value r.0 in
      record { name = n.0; alone = n.1; input = is_bit t d.name r.1 }

  passed : PassesOn t d → passes_on t d ≡ true
  passed p = λ i. ap is_name p.alone i && bit_is t d.name p.input i

  -- the expression that is kept
  kept_is : (a : Expr) → Among (kept_given t d) a → (PassesOn t d → ⊥) × (d.value ≡ a)
  kept_is a h = elim (cases_Bool (passes_on t d)) [
    | inl y ↦ (let none : Among [] a = rw y at h in absurd none)
    | inr n ↦ (let one : Among (d.value ∷ []) a = rw n at h in ((λ p. let z : true ≡ false = sym (passed p) ∙ n in cc), ⊎_elim (λ same. same) (λ z. absurd z) one))
  ]

  is_kept : (a : Expr) → (PassesOn t d → ⊥) → d.value ≡ a → Among (kept_given t d) a
  is_kept a free same = elim (cases_Bool (passes_on t d)) [
    | inl y ↦ absurd (free (passing y))
    | inr n ↦ rw n (inl same)
  ]

-- ---- the connections of instances

-- a connection of an instance has this expression and doesn't pass it on
abbrev KeepsTo : Inner → Scope → Expr → Type 0
KeepsTo i t a = (d : Given) × Among (given_to (port_names t.module') i.args) d × (PassesOn t d → ⊥) × (d.value ≡ a)

to_instance : (i : Inner) (t : Scope) (a : Expr) → Among (kept_to i t) a → KeepsTo i t a
to_instance i t a h =
    let r = among_flat (kept_given t) (given_to (port_names t.module') i.args) a h in
    let k = kept_is t r.0 a r.2 in
    (r.0, r.1, k.0, k.1)

of_instance : (i : Inner) (t : Scope) (a : Expr) → KeepsTo i t a → Among (kept_to i t) a
of_instance i t a k = flat_among (kept_given t) (given_to (port_names t.module') i.args) k.0 a k.1 (is_kept t k.0 a k.2 k.3)

module _ (ms : List Module) (s : Scope) where
  into : (is : List Inner) (ts : List Scope) → map Some ts ≡ map (child ms s) is → (a : Expr) → Among (kept_into is ts) a → IsKeptBy ms s is a
  into [] ts made a h = absurd h
  into (i ∷ is) [] made a h = absurd h
  into (i ∷ is) (t ∷ ts) made a h =
      let first : Some t ≡ child ms s i = cc in
      let rest : map Some ts ≡ map (child ms s) is = cc in
      ⊎_elim (λ k. let r = to_instance i t a k in (i, inl refl, t, sym first, r.0, r.1, r.2, r.3)) (λ k. let r = into is ts rest a k in (r.0, inr r.1, r.2, r.3, r.4, r.5, r.6, r.7)) (among_append (kept_to i t) (kept_into is ts) a h)

  out : (is : List Inner) (ts : List Scope) → map Some ts ≡ map (child ms s) is → (a : Expr) → IsKeptBy ms s is a → Among (kept_into is ts) a
  out [] ts made a k = absurd k.1
  out (i ∷ is) [] made a k = cc
  out (i ∷ is) (t ∷ ts) made a (j, m, u, is', d, given, free, value) =
      let k : KeepsTo j u a = (d, given, free, value) in
      let first : Some t ≡ child ms s i = cc in
      let rest : map Some ts ≡ map (child ms s) is = cc in
      ⊎_elim
      (λ e. let two : Some t ≡ Some u = first ∙ (ap (child ms s) e ∙ is') in
      let same : u ≡ t = cc in
      append_left (kept_to i t) (kept_into is ts) a (of_instance i t a (subst (λ (k : Inner). KeepsTo k t a) (sym e) (subst (λ (v : Scope). KeepsTo j v a) same k))))
      (λ n. append_right (kept_to i t) (kept_into is ts) a (out is ts rest a (j, n, u, is', d, given, free, value))) m

  pub keeps : (ts : List Scope) → map Some ts ≡ map (child ms s) (instances_in s.module') → (as' : List Expr) → as' ≡ kept_into (instances_in s.module') ts → (a : Expr) → Among as' a ↔ IsKept ms s a
  keeps ts made as' same a = (
    λ h. into (instances_in s.module') ts made a (subst (λ bs. Among bs a) same h),
    λ k. subst (λ bs. Among bs a) (sym same) (out (instances_in s.module') ts made a k),
  )
