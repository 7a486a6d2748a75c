-- A list that has the top and, with each scope, its instances, is the list of the scopes.
use Rattle.std.proofs.Common.{◌≡◌, List, [], ◌∷◌, ◌++◌, Option, Some, None, sym, ap, ◌∙◌, refl, subst}
use Rattle.vlog_tree.specs.declared.module.Module.{Module}
use Rattle.vlog_tree_runs.specs.Places.{Name, Among}
use Rattle.vlog_tree_runs.specs.Contents.{Inner, instances_in}
use Rattle.vlog_tree_runs.specs.Scopes.{Scope, IsScope, instance_at, child, child_by, step, scope_from, scope_at}
use Rattle.elab_flat_laws.specs.Flattened.{AreScopes}
use Rattle.elab_flat_laws.proofs.Apart.{instance_found, none_stays}

-- with each scope its instances
abbrev pub IsClosed : List Module → List Scope → Type 0
IsClosed ms ss = (s t : Scope) (i : Inner) → Among ss s → Among (instances_in s.module') i → child ms s i ≡ Some t → Among ss t

child_listed : (ms : List Module) (ss : List Scope) → IsClosed ms ss → (s u : Scope) (x : Name) → Among ss s → (o : Option Inner) → instance_at (instances_in s.module') x ≡ o → child_by ms s o ≡ Some u → Among ss u
child_listed ms ss closed s u x h None e k = cc
child_listed ms ss closed s u x h (Some i) e k = closed s u i h (instance_found (instances_in s.module') x i e).0 k

listed_by : (ms : List Module) (ss : List Scope) → IsClosed ms ss → (s t : Scope) (x : Name) (path : List Name) → Among ss s →
    ((u : Scope) → Among ss u → scope_from ms (Some u) path ≡ Some t → Among ss t) →
    (o : Option Scope) → step ms (Some s) x ≡ o → scope_from ms o path ≡ Some t → Among ss t
listed_by ms ss closed s t x path h rest None e k = let z : None ≡ Some t = sym (none_stays ms path) ∙ k in cc
listed_by ms ss closed s t x path h rest (Some u) e k = rest u (child_listed ms ss closed s u x h (instance_at (instances_in s.module') x) refl e) k

listed : (ms : List Module) (ss : List Scope) → IsClosed ms ss → (t : Scope) (path : List Name) (s : Scope) → Among ss s → scope_from ms (Some s) path ≡ Some t → Among ss t
listed ms ss closed t [] s h k = let e : s ≡ t = cc in subst (λ u. Among ss u) e h
listed ms ss closed t (x ∷ path) s h k =
    listed_by ms ss closed s t x path h (λ u i j. listed ms ss closed t path u i j) (step ms (Some s) x) refl k

from_first : (ms : List Module) (ss : List Scope) → IsClosed ms ss → (t : Scope) (path : List Name) (o : Option Scope) → ((s : Scope) → o ≡ Some s → Among ss s) → scope_from ms o path ≡ Some t → Among ss t
from_first ms ss closed t path None h k = let z : None ≡ Some t = sym (none_stays ms path) ∙ k in cc
from_first ms ss closed t path (Some s) h k = listed ms ss closed t path s (h s refl) k

pub are_scopes : (ms : List Module) (top : Name) (ss : List Scope) → ((s : Scope) → scope_at ms top [] ≡ Some s → Among ss s) → IsClosed ms ss →
    ((s : Scope) → Among ss s → IsScope ms top s) → AreScopes ms top ss
are_scopes ms top ss first closed only = record {
  each = λ s is. from_first ms ss closed s is.0 (scope_at ms top []) first is.1;
  only = only;
  inner = closed;
}

-- a path and one more instance
pub one_more : (ms : List Module) (o : Option Scope) (path : List Name) (x : Name) → scope_from ms o (path ++ x ∷ []) ≡ step ms (scope_from ms o path) x
one_more ms o [] x = refl
one_more ms o (y ∷ path) x = one_more ms (step ms o y) path x

-- the instance of a scope is a scope, where its name finds it
pub child_is : (ms : List Module) (top : Name) (s t : Scope) (i : Inner) → IsScope ms top s → instance_at (instances_in s.module') i.name ≡ Some i → child ms s i ≡ Some t → IsScope ms top t
child_is ms top s t i is found k = (
  is.0 ++ i.name ∷ [],
  one_more ms (scope_at ms top []) is.0 i.name
      ∙ (ap (λ o. step ms o i.name) is.1 ∙ (ap (λ o. child_by ms s o) found ∙ k)),
)
