-- The parameters of each scope have values, and what stands at a scope stands.
use Rattle.std.proofs.Common.{◌≡◌, List, [], ◌∷◌, Option, Some, None, refl, sym, ap, subst, ◌∙◌}
use Rattle.vlog_tree.specs.declared.module.Module.{Module}
use Rattle.vlog_tree.specs.declared.valuation.Entry.{Entry}
use Rattle.vlog_tree_runs.specs.Places.{Name, Among}
use Rattle.vlog_tree_runs.specs.Contents.{Inner, instances_in}
use Rattle.vlog_tree_runs.specs.Scopes.{Scope, Given, module_at, instance_at, scope_in, child_by, step, scope_from, scope_at, top_scope, overriding, params_of}
use Rattle.elab_flat_laws.proofs.Apart.{instance_found, none_stays}
use Rattle.elab_flat_params.specs.Parameters.{HasParams}
use Rattle.elab_flat_instances.specs.Unfolding.{IsChild, HasSoundTop, AreUnfolded, scope_of_top}
use Rattle.elab_flat_faults.specs.declared.flattening.FlatFault.{FlatFault}
use Rattle.elab_flat_faults.specs.FlatStands.{StandsAt, Stands}
use Rattle.elab_flat_instances.specs.Naming.{prefix_name}
use Rattle.elab_flat_instances.proofs.Names.{named_by_prefix}
use Rattle.elab_flat_instances.proofs.Standing.{at_scope, in_scope}
use Rattle.elab_flat_instances.proofs.Walks.{inside}
use Rattle.elab_flat_names.specs.Rows.{StandsAlone}

abbrev pub IsSoundScope : Scope → Type 0
IsSoundScope s = (ds : List Given) × (outer : List Entry) × HasParams s.module' ds outer s.params

module _ (ms : List Module) (top : Name) (ss : List Scope) (are : AreUnfolded ms top ss) where
  child_params : (s u : Scope) (i : Inner) (o : Option Module) → module_at ms i.of_module ≡ o → scope_in s i o ≡ Some u → u.params ≡ params_of u.module' (overriding u.module' i.overrides) s.params
  child_params s u i None e k = cc
  child_params s u i (Some m) e k =
      let same : inside s i m ≡ u = cc in
      subst (λ (z : Scope). z.params ≡ params_of z.module' (overriding z.module' i.overrides) s.params) same refl

  child_sound : (s t : Scope) (i : Inner) → IsChild ms s i t → IsSoundScope t
  child_sound s t i h =
      (overriding t.module' i.overrides, s.params, record { are = child_params s t i (module_at ms i.of_module) refl h.child_is; sound = h.sound })

  sound_by : (s t : Scope) (x : Name) (path : List Name) → Among ss s → ((u : Scope) → Among ss u → IsSoundScope u → scope_from ms (Some u) path ≡ Some t → IsSoundScope t) →
      (i : Option Inner) → instance_at (instances_in s.module') x ≡ i → (u : Option Scope) → child_by ms s i ≡ u → scope_from ms u path ≡ Some t → IsSoundScope t
  sound_by s t x path a rest i found None is end = let z : None ≡ Some t = sym (none_stays ms path) ∙ end in cc
  sound_by s t x path a rest None found (Some u) is end = cc
  sound_by s t x path a rest (Some i) found (Some u) is end =
      let here = (instance_found (instances_in s.module') x i found).0 in
      let h = are.sound s a i here in
      let both : Some h.scope ≡ Some u = sym h.is_child.child_is ∙ is in
      let same : h.scope ≡ u = cc in
      rest u (are.scopes.inner s u i a here is) (subst IsSoundScope same (child_sound s h.scope i h.is_child)) end

  sound_from : (path : List Name) (s t : Scope) → Among ss s → IsSoundScope s → scope_from ms (Some s) path ≡ Some t → IsSoundScope t
  sound_from [] s t a h e = let same : s ≡ t = cc in subst IsSoundScope same h
  sound_from (x ∷ path) s t a h e =
      sound_by s t x path a (λ u b k end. sound_from path u t b k end) (instance_at (instances_in s.module') x) refl (step ms (Some s) x) refl e

  pub is_sound : HasSoundTop ms top → (s : Scope) → Among ss s → IsSoundScope s
  is_sound first s a =
      let m = first.0 in
      let p = are.scopes.only s a in
      let at : scope_at ms top [] ≡ Some (scope_of_top m) = ap top_scope first.1 in
      sound_from p.0 (scope_of_top m) s (are.scopes.each (scope_of_top m) ([], at)) ([], [], record { are = refl; sound = first.2 })
      (ap (λ o. scope_from ms (top_scope o) p.0) (sym first.1) ∙ p.1)

  -- what stands at a scope, by the name that it has, stands
  pub at_one : (s : Scope) → Among ss s → (fault : FlatFault) → StandsAt ms (prefix_name top s.prefix) s fault → Stands ms top fault
  at_one s a fault h =
      let p = are.scopes.only s a in
      at_scope ms top p.0 s p.1 fault (subst (λ n. StandsAt ms n s fault) (named_by_prefix ms top p.0 s p.1) h)

  pub at_any : (s : Scope) → Among ss s → (fault : FlatFault) → StandsAlone s fault → Stands ms top fault
  at_any s a fault h = let p = are.scopes.only s a in in_scope ms top p.0 s p.1 fault (h ms)
