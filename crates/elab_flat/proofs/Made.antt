-- Each scope has a module of the list, and the parameters of its module.
use Rattle.std.proofs.Common.{◌≡◌, List, [], ◌∷◌, Option, Some, None, refl, sym, subst, ◌∙◌}
use Rattle.vlog_tree.specs.declared.module.Module.{Module}
use Rattle.vlog_tree.specs.declared.valuation.Entry.{Entry}
use Rattle.vlog_tree_runs.specs.Places.{Name, Among}
use Rattle.vlog_tree_runs.specs.Contents.{Inner, instances_in}
use Rattle.vlog_tree_runs.specs.Scopes.{Scope, IsScope, Given, module_at, instance_at, scope_in, child, child_by, step, scope_from, top_scope, overriding, params_of}
use Rattle.elab_flat_laws.proofs.Apart.{module_found, none_stays}
use Rattle.elab_flat_instances.specs.Unfolding.{scope_of_top}
use Rattle.elab_flat_instances.proofs.Walks.{inside}

pub record IsMade (ms : List Module) (s : Scope) : Type 0 where
  pub listed : Among ms s.module'
  pub given : List Given
  pub outer : List Entry
  pub params : s.params ≡ params_of s.module' given outer

module _ (ms : List Module) where
  made_in : (s u : Scope) (i : Inner) (o : Option Module) → module_at ms i.of_module ≡ o → scope_in s i o ≡ Some u → IsMade ms u × (module_at ms i.of_module ≡ Some u.module')
  made_in s u i None e k = cc
  made_in s u i (Some m) e k =
      let same : inside s i m ≡ u = cc in
      subst (λ z. IsMade ms z × (module_at ms i.of_module ≡ Some z.module')) same
      (record { listed = module_found ms i.of_module m e; given = overriding m i.overrides; outer = s.params; params = refl }, e)

  pub child_made : (s u : Scope) (i : Inner) → child ms s i ≡ Some u → IsMade ms u
  child_made s u i k = (made_in s u i (module_at ms i.of_module) refl k).0

  -- the module of an instance's scope
  pub module_of : (s u : Scope) (i : Inner) → child ms s i ≡ Some u → module_at ms i.of_module ≡ Some u.module'
  module_of s u i k = (made_in s u i (module_at ms i.of_module) refl k).1

  made_by : (s t : Scope) (x : Name) (path : List Name) → ((u : Scope) → IsMade ms u → scope_from ms (Some u) path ≡ Some t → IsMade ms t) →
      (i : Option Inner) → instance_at (instances_in s.module') x ≡ i → (u : Option Scope) → child_by ms s i ≡ u → scope_from ms u path ≡ Some t → IsMade ms t
  made_by s t x path rest i found None is end = let z : None ≡ Some t = sym (none_stays ms path) ∙ end in cc
  made_by s t x path rest None found (Some u) is end = cc
  made_by s t x path rest (Some i) found (Some u) is end = rest u (child_made s u i is) end

  made_from : (path : List Name) (s t : Scope) → IsMade ms s → scope_from ms (Some s) path ≡ Some t → IsMade ms t
  made_from [] s t m e = let same : s ≡ t = cc in subst (IsMade ms) same m
  made_from (x ∷ path) s t m e = made_by s t x path (λ u n k. made_from path u t n k) (instance_at (instances_in s.module') x) refl (step ms (Some s) x) refl e

  made_top : (top : Name) (path : List Name) (t : Scope) (o : Option Module) → module_at ms top ≡ o → scope_from ms (top_scope o) path ≡ Some t → IsMade ms t
  made_top top path t None e k = let z : None ≡ Some t = sym (none_stays ms path) ∙ k in cc
  made_top top path t (Some m) e k =
      made_from path (scope_of_top m) t (record { listed = module_found ms top m e; given = []; outer = []; params = refl }) k

  pub made : (top : Name) (s : Scope) → IsScope ms top s → IsMade ms s
  made top s is = made_top top is.0 s (module_at ms top) refl is.1
