-- Behind the top stand the instances of each scope.
use Rattle.std.proofs.Common.{◌≡◌, List, [], ◌∷◌, ◌++◌, map, Option, Some, None, inl, inr, refl, sym, ap, ◌∙◌}
use Rattle.std.specs.List.{flat_map}
use Rattle.vlog_tree.specs.declared.module.Module.{Module}
use Rattle.vlog_tree_runs.specs.Places.{Name, Among}
use Rattle.vlog_tree_runs.specs.Contents.{Inner, instances_in}
use Rattle.vlog_tree_runs.specs.Scopes.{Scope, instance_at, child, child_by, step, scope_at}
use Rattle.elab_flat_laws.proofs.Lists.{map_append}
use Rattle.elab_flat_laws.proofs.Listed.{one_more}
use Rattle.elab_flat_faults.specs.Handed.{longer, below}
use Rattle.elab_flat_instances.specs.Unfolding.{HasSoundInners, AreUnfolded}
use Rattle.elab_flat.specs.Following.{inner_scopes, AreFollowed}

map_flat : {A B C : Type 0} (f : B → C) (g : A → List B) (xs : List A) → map f (flat_map g xs) ≡ flat_map (λ x. map f (g x)) xs
map_flat f g [] = refl
map_flat f g (x ∷ xs) = map_append f (g x) (flat_map g xs) ∙ ap (λ ys. map f (g x) ++ ys) (map_flat f g xs)

module _ (ms : List Module) (top : Name) where
  module _ (path : List Name) (s : Scope) (at : scope_at ms top path ≡ Some s) where
    abbrev found_all : List Inner → Type 0
    found_all is = (i : Inner) → Among is i → instance_at (instances_in s.module') i.name ≡ Some i

    one_below : (i : Inner) → instance_at (instances_in s.module') i.name ≡ Some i → scope_at ms top (path ++ i.name ∷ []) ≡ child ms s i
    one_below i found =
        one_more ms (scope_at ms top []) path i.name ∙ (ap (λ o. step ms o i.name) at ∙ ap (child_by ms s) found)

    all_below : (is : List Inner) → found_all is → map (scope_at ms top) (map (λ i. path ++ i.name ∷ []) is) ≡ map (child ms s) is
    all_below [] h = refl
    all_below (i ∷ is) h = λ j. one_below i (h i (inl refl)) j ∷ all_below is (λ k m. h k (inr m)) j

    here_below : HasSoundInners ms s → map (scope_at ms top) (below ms top path) ≡ inner_scopes ms s
    here_below sound = ap (λ o. map (scope_at ms top) (longer path o)) at ∙ all_below (instances_in s.module') (λ i m. (sound i m).found)

  abbrev scopes_below : List Name → List (Option Scope)
  scopes_below path = map (scope_at ms top) (below ms top path)

  each_below : (ss : List Scope) (paths : List (List Name)) → map Some ss ≡ map (scope_at ms top) paths → ((s : Scope) → Among ss s → HasSoundInners ms s) →
      flat_map scopes_below paths ≡ flat_map (inner_scopes ms) ss
  each_below [] [] e sound = refl
  each_below [] (p ∷ ps) e sound = cc
  each_below (s ∷ ss) [] e sound = cc
  each_below (s ∷ ss) (p ∷ ps) e sound =
      let at : Some s ≡ scope_at ms top p = cc in
      let rest : map Some ss ≡ map (scope_at ms top) ps = cc in
      λ j. here_below p s (sym at) (sound s (inl refl)) j ++ each_below ss ps rest (λ t m. sound t (inr m)) j

  by_first : (ss : List Scope) (o : Option Scope) → map Some ss ≡ o ∷ flat_map (inner_scopes ms) ss → AreFollowed ms ss
  by_first [] o e = cc
  by_first (s ∷ ss) None e = cc
  by_first (s ∷ ss) (Some t) e = (t, e)

  pub are_followed : (ss : List Scope) → AreUnfolded ms top ss → AreFollowed ms ss
  are_followed ss are =
      by_first ss (scope_at ms top [])
      (are.lead
      ∙ (ap (map (scope_at ms top)) are.in_order
      ∙ ap (λ xs. scope_at ms top [] ∷ xs) (map_flat (scope_at ms top) (below ms top) are.paths ∙ each_below ss are.paths are.lead are.sound)))
