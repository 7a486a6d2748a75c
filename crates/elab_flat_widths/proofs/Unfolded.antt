-- The parameters of each scope have values.
use Rattle.std.proofs.Common.{◌≡◌, List, [], ◌∷◌, Option, Some, None, refl, sym, ap, subst, ◌∙◌}
use Rattle.vlog_tree.specs.declared.module.Module.{Module}
use Rattle.vlog_tree_runs.specs.Places.{Name, Among}
use Rattle.vlog_tree_runs.specs.Contents.{params_in, Inner, instances_in}
use Rattle.vlog_tree_runs.specs.Scopes.{Scope, module_at, overriding, child, child_by, instance_at, scope_from, scope_at, top_scope}
use Rattle.elab_flat_laws.proofs.Apart.{none_stays, instance_found}
use Rattle.elab_flat_params.specs.Parameters.{AreSound}
use Rattle.elab_flat_instances.specs.Unfolding.{AreUnfolded, HasSoundTop, scope_of_top}
use Rattle.elab_flat_instances.proofs.Walks.{same_some}
use Rattle.elab_flat_widths.specs.Scopes.{HasSoundParams}
use Rattle.elab_flat_widths.proofs.Params.{child_params}

none_ends : {A : Type 0} (a : A) (o : Option A) → o ≡ None → o ≡ Some a → ⊥
none_ends a o e g = let z : None ≡ Some a = sym e ∙ g in cc

module _ (ms : List Module) (top : Name) (ss : List Scope) (all : AreUnfolded ms top ss) where
  -- so do those of an instance
  of_child : (s t : Scope) (i : Inner) → Among ss s → Among (instances_in s.module') i → child ms s i ≡ Some t → HasSoundParams t
  of_child s t i a among is =
      let inner = all.sound s a i among in
      let same = same_some (child ms s i) inner.scope t inner.is_child.child_is is in
      record {
        given = overriding t.module' i.overrides;
        outer = s.params;
        are = child_params s i (module_at ms i.of_module) t is;
        sound = subst (λ (z : Scope). AreSound z.module' (params_in z.module') (overriding z.module' i.overrides) s.params []) same inner.is_child.sound;
      }

  abbrev Follows : List Name → Scope → Type 0
  Follows path t = (u : Scope) → Among ss u → HasSoundParams u → scope_from ms (Some u) path ≡ Some t → HasSoundParams t

  -- and those at the end of a path
  along : (path : List Name) (s t : Scope) → Among ss s → HasSoundParams s → scope_from ms (Some s) path ≡ Some t → HasSoundParams t
  along [] s t a has e = let same : s ≡ t = cc in subst HasSoundParams same has
  along (x ∷ path) s t a has e = at_name (λ u. along path u t) (instance_at (instances_in s.module') x) refl e
    where
      at_child : Follows path t → (i : Inner) → Among (instances_in s.module') i → (o : Option Scope) → child ms s i ≡ o → scope_from ms o path ≡ Some t → HasSoundParams t
      at_child follows i among None is g = absurd (none_ends t (scope_from ms None path) (none_stays ms path) g)
      at_child follows i among (Some u) is g = follows u (all.scopes.inner s u i a among is) (of_child s u i a among is) g

      at_name : Follows path t → (o : Option Inner) → instance_at (instances_in s.module') x ≡ o → scope_from ms (child_by ms s o) path ≡ Some t → HasSoundParams t
      at_name follows None is g = absurd (none_ends t (scope_from ms None path) (none_stays ms path) g)
      at_name follows (Some i) is g = at_child follows i (instance_found (instances_in s.module') x i is).0 (child ms s i) refl g

  pub all_sound : HasSoundTop ms top → (s : Scope) → Among ss s → HasSoundParams s
  all_sound (m, there, sound) s a =
      let way = all.scopes.only s a in
      let first = scope_of_top m in
      let here : scope_at ms top [] ≡ Some first = ap top_scope there in
      along way.0 first s (all.scopes.each first ([], here)) (record {
        given = [];
        outer = [];
        are = refl;
        sound = sound;
      }) (subst (λ o. scope_from ms (top_scope o) way.0 ≡ Some s) there way.1)
