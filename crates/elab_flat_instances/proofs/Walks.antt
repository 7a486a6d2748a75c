-- Walks in the graph of modules are paths of instances.
use Rattle.std.proofs.Common.{ℕ, suc, ◌≡◌, ◌<◌, List, [], ◌∷◌, ◌++◌, length, map, take, Option, Some, None, refl, sym, ap, subst, ◌∙◌, arith, length-append}
use Rattle.std.specs.List.{slice_get}
use Rattle.std.proofs.lemmas.Option.{slice_get_within}
use Rattle.std.proofs.Math.Seq.{take-append_seam}
use Rattle.vlog_tree.specs.declared.module.Module.{Module}
use Rattle.vlog_tree_runs.specs.Places.{Name}
use Rattle.vlog_tree_runs.specs.Contents.{Inner, instances_in}
use Rattle.vlog_tree_runs.specs.Scopes.{Scope, module_at, instance_at, scope_in, child, child_by, step, scope_from, scope_at, top_scope, inner_prefix, overriding, params_of}
use Rattle.elab_flat_laws.proofs.Listed.{one_more}
use Rattle.elab_flat_laws.proofs.Apart.{none_stays}
use Rattle.elab_flat_faults.specs.FlatStands.{IsRecursive}
use Rattle.elab_flat_scopes.specs.Finding.{place_in, module_name}
use Rattle.elab_flat_graphs.specs.Walks.{targets_of, walk_end, IsCycle}
use Rattle.elab_flat_graphs.proofs.Closing.{walk-append}
use Rattle.elab_flat_instances.specs.Graph.{graph_of}
use Rattle.elab_flat_instances.specs.Naming.{IsAtNode}
use Rattle.elab_flat_instances.proofs.Places.{edge_of_module, known_edge, edge_by, module_place}

-- the scope of an instance whose module is there
abbrev pub inside : Scope → Inner → Module → Scope
inside s i m = record { prefix = inner_prefix s.prefix i.name; module' = m; params = params_of m (overriding m i.overrides) s.params }

pub child_is : (ms : List Module) (s : Scope) (i : Inner) (m : Module) → module_at ms i.of_module ≡ Some m → child ms s i ≡ Some (inside s i m)
child_is ms s i m e = ap (scope_in s i) e

step_is : (ms : List Module) (s : Scope) (i : Inner) (m : Module) → instance_at (instances_in s.module') i.name ≡ Some i → module_at ms i.of_module ≡ Some m →
    step ms (Some s) i.name ≡ Some (inside s i m)
step_is ms s i m found e = ap (child_by ms s) found ∙ child_is ms s i m e

pub same_some : {A : Type 0} (o : Option A) (a b : A) → o ≡ Some a → o ≡ Some b → a ≡ b
same_some o a b e f = let z : Some a ≡ Some b = sym e ∙ f in cc

module _ (ms : List Module) where
  abbrev g : List (List ℕ)
  g = graph_of ms

  pub nowhere : (walk : List ℕ) → walk_end g None walk ≡ None
  nowhere [] = refl
  nowhere (i ∷ walk) = nowhere walk

  -- a walk that ends at a module begins at one
  pub begins_by : (n e : ℕ) (walk : List ℕ) (last : ℕ) (o : Option ℕ) → slice_get (targets_of g n) e ≡ o → walk_end g o walk ≡ Some last → n < length ms
  begins_by n e walk last None is end = let z : None ≡ Some last = sym (nowhere walk) ∙ end in cc
  begins_by n e walk last (Some t) is end = let r = edge_of_module ms n e t is in slice_get_within ms n r.0 r.2

  pub begins : (n : ℕ) (walk : List ℕ) (last : ℕ) → walk_end g (Some n) walk ≡ Some last → last < length ms → n < length ms
  begins n [] last end lt = let same : n ≡ last = cc in omega arith
  begins n (e ∷ walk) last end lt = begins_by n e walk last (slice_get (targets_of g n) e) refl end

  -- ---- from walks to paths

  pub record Reaches (s : Scope) (last : ℕ) (count : ℕ) : Type 0 where
    pub path : List Name
    pub scope : Scope
    pub reached : scope_from ms (Some s) path ≡ Some scope
    pub node : slice_get ms last ≡ Some scope.module'
    pub long : length path ≡ count

  walk_by : (s : Scope) (n e : ℕ) (walk : List ℕ) (last : ℕ) → slice_get ms n ≡ Some s.module' → last < length ms →
      ((u : Scope) (t : ℕ) → slice_get ms t ≡ Some u.module' → walk_end g (Some t) walk ≡ Some last → Reaches u last (length walk)) →
      (o : Option ℕ) → slice_get (targets_of g n) e ≡ o → walk_end g o walk ≡ Some last → Reaches s last (suc (length walk))
  walk_by s n e walk last at lt rest None is end = let z : None ≡ Some last = sym (nowhere walk) ∙ end in cc
  walk_by s n e walk last at lt rest (Some t) is end =
      let k = known_edge ms n e t is (begins t walk last end lt) in
      let same : k.0 ≡ s.module' = same_some (slice_get ms n) k.0 s.module' k.3 at in
      let found : instance_at (instances_in s.module') k.2.name ≡ Some k.2 = ap (λ m. instance_at (instances_in m) k.2.name) (sym same) ∙ k.5 in
      let u : Scope = inside s k.2 k.1 in
      let r = rest u t k.7 end in
      record {
        path = k.2.name ∷ r.path;
        scope = r.scope;
        reached = ap (λ o. scope_from ms o r.path) (step_is ms s k.2 k.1 found k.6) ∙ r.reached;
        node = r.node;
        long = ap suc r.long;
      }

  pub walk_leads : (walk : List ℕ) (s : Scope) (n last : ℕ) → slice_get ms n ≡ Some s.module' → last < length ms → walk_end g (Some n) walk ≡ Some last → Reaches s last (length walk)
  walk_leads [] s n last at lt end =
      let same : n ≡ last = cc in
      record { path = []; scope = s; reached = refl; node = ap (slice_get ms) (sym same) ∙ at; long = refl }
  walk_leads (e ∷ walk) s n last at lt end =
      walk_by s n e walk last at lt (λ u t is k. walk_leads walk u t last is lt k) (slice_get (targets_of g n) e) refl end

  -- one edge from an instance to one in it
  pub node_step : (top prefix : Name) (n e t : ℕ) → IsAtNode ms top prefix n → slice_get (targets_of g n) e ≡ Some t → t < length ms →
      (i : Inner) × (m : Module) × (slice_get ms n ≡ Some m) × (slice_get (instances_in m) e ≡ Some i) × IsAtNode ms top (inner_prefix prefix i.name) t
  node_step top prefix n e t at is lt =
      let k = known_edge ms n e t is lt in
      let s = at.scope in
      let same : k.0 ≡ s.module' = same_some (slice_get ms n) k.0 s.module' k.3 at.node in
      let found : instance_at (instances_in s.module') k.2.name ≡ Some k.2 = ap (λ m. instance_at (instances_in m) k.2.name) (sym same) ∙ k.5 in (
        k.2,
        k.0,
        k.3,
        k.4,
        record {
          path = at.path ++ k.2.name ∷ [];
          scope = inside s k.2 k.1;
          reached = one_more ms (scope_at ms top []) at.path k.2.name ∙ (ap (λ o. step ms o k.2.name) at.reached ∙ step_is ms s k.2 k.1 found k.6);
          prefix_is = ap (λ p. inner_prefix p k.2.name) at.prefix_is;
          node = k.7;
        },
      )

  -- ---- from paths to walks

  -- the node of a scope's module
  pub record HasNode (s : Scope) (n : ℕ) : Type 0 where
    pub place : place_in (map module_name ms) s.module'.name ≡ Some n
    pub node : slice_get ms n ≡ Some s.module'

  pub record Walks (n : ℕ) (t : Scope) (count : ℕ) : Type 0 where
    pub walk : List ℕ
    pub last : ℕ
    pub ends : walk_end g (Some n) walk ≡ Some last
    pub has : HasNode t last
    pub long : length walk ≡ count

  module_of_child : (s u : Scope) (i : Inner) (o : Option Module) → module_at ms i.of_module ≡ o → scope_in s i o ≡ Some u → module_at ms i.of_module ≡ Some u.module'
  module_of_child s u i None e k = cc
  module_of_child s u i (Some m) e k = let same : inside s i m ≡ u = cc in e ∙ ap (λ (z : Scope). Some z.module') same

  path_by : (s t : Scope) (n : ℕ) (x : Name) (path : List Name) → HasNode s n →
      ((u : Scope) (k : ℕ) → HasNode u k → scope_from ms (Some u) path ≡ Some t → Walks k t (length path)) →
      (i : Option Inner) → instance_at (instances_in s.module') x ≡ i → (u : Option Scope) → child_by ms s i ≡ u → scope_from ms u path ≡ Some t → Walks n t (suc (length path))
  path_by s t n x path at rest i found None is end = let z : None ≡ Some t = sym (none_stays ms path) ∙ end in cc
  path_by s t n x path at rest None found (Some u) is end = cc
  path_by s t n x path at rest (Some i) found (Some u) is end =
      let to = module_of_child s u i (module_at ms i.of_module) refl is in
      let k = edge_by ms n s.module' u.module' x i at.node found to in
      let r = rest u k.1 (record { place = k.3; node = k.4 }) end in
      record {
        walk = k.0 ∷ r.walk;
        last = r.last;
        ends = ap (λ o. walk_end g o r.walk) k.2 ∙ r.ends;
        has = r.has;
        long = ap suc r.long;
      }

  pub path_walks : (path : List Name) (s t : Scope) (n : ℕ) → HasNode s n → scope_from ms (Some s) path ≡ Some t → Walks n t (length path)
  path_walks [] s t n at end =
      let same : s ≡ t = cc in
      record { walk = []; last = n; ends = refl; has = subst (λ u. HasNode u n) same at; long = refl }
  path_walks (x ∷ path) s t n at end =
      path_by s t n x path at (λ u k h e. path_walks path u t k h e) (instance_at (instances_in s.module') x) refl (step ms (Some s) x) refl end

  top_by : (top : Name) (path : List Name) (s : Scope) (m : Module) (start : ℕ) → module_at ms top ≡ Some m → place_in (map module_name ms) top ≡ Some start → scope_at ms top path ≡ Some s →
      Walks start s (length path)
  top_by top path s m start e place is =
      let q = module_place ms top m e in
      let same : q.0 ≡ start = same_some (place_in (map module_name ms) top) q.0 start q.1 place in
      let u : Scope = record { prefix = []; module' = m; params = params_of m [] [] } in
      let from : scope_from ms (Some u) path ≡ Some s = ap (λ o. scope_from ms (top_scope o) path) (sym e) ∙ is in
      path_walks path u s start (record { place = ap (place_in (map module_name ms)) q.3 ∙ (q.1 ∙ ap Some same); node = ap (slice_get ms) (sym same) ∙ q.2 }) from

  -- a module below itself makes a cycle
  pub recursion_cycles : (top : Name) (m : Module) (start : ℕ) → module_at ms top ≡ Some m → place_in (map module_name ms) top ≡ Some start → (path : List Name) → IsRecursive ms top path →
      (walk : List ℕ) × (back : ℕ) × IsCycle g start walk back
  recursion_cycles top m start e place path r =
      let a = top_by top path r.0 m start e place r.1 in
      let b = path_walks (r.2 ∷ r.3) r.0 r.4 a.last a.has r.5 in
      let z : b.last ≡ a.last = same_some (place_in (map module_name ms) r.4.module'.name) b.last a.last b.has.place (ap (place_in (map module_name ms)) r.6 ∙ a.has.place) in
      let back : take (length a.walk) (a.walk ++ b.walk) ≡ a.walk = take-append_seam a.walk b.walk in (
        a.walk ++ b.walk,
        length a.walk,
        record {
          node = a.last;
          reached = ap (walk_end g (Some start)) back ∙ a.ends;
          again = walk-append g (Some start) a.walk b.walk ∙ (ap (λ o. walk_end g o b.walk) a.ends ∙ (b.ends ∙ ap Some z));
          some = omega (arith, length-append a.walk b.walk, b.long);
        },
      )
