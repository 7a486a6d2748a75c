-- The nodes and edges of the graph of modules.
use Rattle.std.proofs.Common.{ℕ, zero, suc, ◌≡◌, ◌+◌, ◌≤◌, ◌<◌, List, [], ◌∷◌, ◌++◌, length, map, get_or, Option, Some, None, inl, inr, refl, sym, ap, ◌∙◌, arith, add-zero, zero-add, if◌then◌else◌}
use Rattle.std.specs.List.{find, slice_get}
use Rattle.std.specs.Str.{bytes_eq}
use Rattle.std.proofs.lemmas.Bool.{cases_Bool}
use Rattle.std.proofs.lemmas.Bool.Decides.{eqb_tells}
use Rattle.std.proofs.lemmas.Slice.Eq.{bytes_eq-Decides}
use Rattle.vlog_tree.specs.declared.module.Module.{Module}
use Rattle.vlog_tree_runs.specs.Places.{Name}
use Rattle.vlog_tree_runs.specs.Contents.{Inner, instances_in}
use Rattle.vlog_tree_runs.specs.Scopes.{module_at, instance_at}
use Rattle.elab_flat_scopes.specs.Finding.{place_from, place_in, module_name}
use Rattle.elab_flat_graphs.specs.Walks.{targets_of, IsGraph}
use Rattle.elab_flat_instances.specs.Graph.{inner_name, instance_names, node_at, node_if, target_of, targets_from, module_targets, graph_of}

-- ---- places of names

module _ {X : Type 0} (name : X → Name) where
  -- the first thing of a name stands at the first place of the name
  pub first_at : (i k : ℕ) (xs : List X) (x : Name) → place_from i (map name xs) x ≡ Some k →
      (j : ℕ) × (m : X) × (k ≡ i + j) × (slice_get xs j ≡ Some m) × (name m ≡ x) × (find (λ m. bytes_eq (name m) x) xs ≡ Some m)
  first_at i k [] x e = cc
  first_at i k (m ∷ ms) x e = elim (cases_Bool (bytes_eq (name m) x)) [
    | inl y ↦ (let is : Some i ≡ Some k = rw y at e in (0, m, here i k is, refl, (bytes_eq-Decides (name m) x).0 y, rw y refl))
    | inr n ↦ (let r = first_at (suc i) k ms x (rw n at e) in (suc r.0, r.1, later i k r.0 r.2, r.3, r.4, rw n r.5))
  ]
    where
      here : (i k : ℕ) → Some i ≡ Some k → k ≡ i + 0
      here i k e = let same : i ≡ k = cc in omega arith

      later : (i k j : ℕ) → k ≡ suc i + j → k ≡ i + suc j
      later i k j e = omega arith

  pub has_first : (i : ℕ) (xs : List X) (x : Name) (m : X) → find (λ m. bytes_eq (name m) x) xs ≡ Some m → (k : ℕ) × (place_from i (map name xs) x ≡ Some k)
  has_first i [] x m e = cc
  has_first i (y ∷ ys) x m e = elim (cases_Bool (bytes_eq (name y) x)) [
    | inl t ↦ (i, rw t refl)
    | inr n ↦ (let r = has_first (suc i) ys x m (rw n at e) in (r.0, rw n r.1))
  ]

  pub at_place : (xs : List X) (x : Name) (k : ℕ) → place_in (map name xs) x ≡ Some k →
      (m : X) × (slice_get xs k ≡ Some m) × (name m ≡ x) × (find (λ m. bytes_eq (name m) x) xs ≡ Some m)
  at_place xs x k e =
      let r = first_at 0 k xs x e in
      let same : k ≡ r.0 = omega (arith, r.2) in
      (r.1, ap (slice_get xs) same ∙ r.3, r.4, r.5)

pub place_within : (i k : ℕ) (xs : List Name) (x : Name) → place_from i xs x ≡ Some k → k < i + length xs
place_within i k [] x e = cc
place_within i k (y ∷ ys) x e = elim (cases_Bool (bytes_eq y x)) [
  | inl t ↦ (let is : Some i ≡ Some k = rw t at e in let same : i ≡ k = cc in omega arith)
  | inr n ↦ (let r = place_within (suc i) k ys x (rw n at e) in omega arith)
]

inner_found : (is : List Inner) (x : Name) → find (λ i. bytes_eq (inner_name i) x) is ≡ instance_at is x
inner_found [] x = refl
inner_found (i ∷ is) x = ap (λ o. if bytes_eq i.name x then Some i else o) (inner_found is x)

module_found : (ms : List Module) (x : Name) → find (λ m. bytes_eq (module_name m) x) ms ≡ module_at ms x
module_found [] x = refl
module_found (m ∷ ms) x = ap (λ o. if bytes_eq m.name x then Some m else o) (module_found ms x)

pub module_placed : (ms : List Module) (x : Name) (n : ℕ) → place_in (map module_name ms) x ≡ Some n →
    (m : Module) × (slice_get ms n ≡ Some m) × (m.name ≡ x) × (module_at ms x ≡ Some m)
module_placed ms x n e = let r = at_place module_name ms x n e in (r.0, r.1, r.2, sym (module_found ms x) ∙ r.3)

pub module_place : (ms : List Module) (x : Name) (m : Module) → module_at ms x ≡ Some m →
    (n : ℕ) × (place_in (map module_name ms) x ≡ Some n) × (slice_get ms n ≡ Some m) × (m.name ≡ x)
module_place ms x m e =
    let k = has_first module_name 0 ms x m (module_found ms x ∙ e) in
    let r = module_placed ms x k.0 k.1 in
    let z : Some r.0 ≡ Some m = sym r.3 ∙ e in
    let same : r.0 ≡ m = cc in
    (k.0, k.1, r.1 ∙ ap Some same, ap (λ (u : Module). u.name) (sym same) ∙ r.2)

pub inner_place : (is : List Inner) (x : Name) (i : Inner) → instance_at is x ≡ Some i → (k : ℕ) × (place_in (map inner_name is) i.name ≡ Some k) × (slice_get is k ≡ Some i) × (i.name ≡ x)
inner_place is x i e =
    let k = has_first inner_name 0 is x i (inner_found is x ∙ e) in
    let r = at_place inner_name is x k.0 k.1 in
    let z : Some r.0 ≡ Some i = sym r.3 ∙ (inner_found is x ∙ e) in
    let same : r.0 ≡ i = cc in
    let named : i.name ≡ x = ap (λ (u : Inner). u.name) (sym same) ∙ r.2 in
    (k.0, ap (place_in (map inner_name is)) named ∙ k.1, r.1 ∙ ap Some same, named)

pub instance_placed : (is : List Inner) (i : Inner) (k : ℕ) → place_in (map inner_name is) i.name ≡ Some k → slice_get is k ≡ Some i → instance_at is i.name ≡ Some i
instance_placed is i k e at =
    let r = at_place inner_name is i.name k e in
    let z : Some r.0 ≡ Some i = sym r.1 ∙ at in
    let same : r.0 ≡ i = cc in
    sym (inner_found is i.name) ∙ (r.3 ∙ ap Some same)

-- ---- edges

module _ (mods : List Name) where
  pub target_at : (names : List Name) (j : ℕ) (is : List Inner) (k t : ℕ) → slice_get (targets_from mods names j is) k ≡ Some t →
      (i : Inner) × (slice_get is k ≡ Some i) × (t ≡ target_of mods names (j + k) i)
  target_at names j [] k t e = cc
  target_at names j (i ∷ is) zero t e = (i, refl, let same : target_of mods names j i ≡ t = cc in sym same ∙ ap (λ n. target_of mods names n i) (sym (add-zero j)))
  target_at names j (i ∷ is) (suc k) t e =
      let r = target_at names (suc j) is k t e in
      let same : suc j + k ≡ j + suc k = omega arith in
      (r.0, r.1, r.2 ∙ ap (λ n. target_of mods names n r.0) same)

  pub edge_at : (names : List Name) (j : ℕ) (is : List Inner) (k : ℕ) (i : Inner) → slice_get is k ≡ Some i → slice_get (targets_from mods names j is) k ≡ Some (target_of mods names (j + k) i)
  edge_at names j [] k i e = cc
  edge_at names j (x ∷ is) zero i e = let same : x ≡ i = cc in ap (λ u. Some (target_of mods names j u)) same ∙ ap (λ n. Some (target_of mods names n i)) (sym (add-zero j))
  edge_at names j (x ∷ is) (suc k) i e =
      let same : suc j + k ≡ j + suc k = omega arith in
      edge_at names (suc j) is k i e ∙ ap (λ n. Some (target_of mods names n i)) same

  known_node : (o : Option ℕ) (t : ℕ) → node_at mods o ≡ t → t < length mods → o ≡ Some t
  known_node None t e lt = absurd (omega arith)
  known_node (Some n) t e lt = ap Some e

  -- an edge to a module is that of the first instance of its name
  known_if : (o : Option ℕ) (j t : ℕ) (x : Name) → node_if mods o j x ≡ t → t < length mods → (o ≡ Some j) × (place_in mods x ≡ Some t)
  known_if None j t x e lt = absurd (omega arith)
  known_if (Some k) j t x e lt = elim (eqb_tells k j) [
    | inl y ↦ (ap Some y.1, known_node (place_in mods x) t (rw y.0 at e) lt)
    | inr n ↦ (let far : length mods ≡ t = rw n.0 at e in absurd (omega arith))
  ]

  pub known_target : (names : List Name) (j t : ℕ) (i : Inner) → target_of mods names j i ≡ t → t < length mods → (place_in names i.name ≡ Some j) × (place_in mods i.of_module ≡ Some t)
  known_target names j t i e lt = known_if (place_in names i.name) j t i.of_module e lt

  pub target_is : (names : List Name) (j t : ℕ) (i : Inner) → place_in names i.name ≡ Some j → place_in mods i.of_module ≡ Some t → target_of mods names j i ≡ t
  target_is names j t i at to = ap (λ o. node_if mods o j i.of_module) at ∙ same j (ap (node_at mods) to)
    where
      same : (j : ℕ) → node_at mods (place_in mods i.of_module) ≡ t → node_if mods (Some j) j i.of_module ≡ t
      same j e = elim (eqb_tells j j) [ inl y ↦ rw y.0 e | inr n ↦ absurd (n.1 refl) ]

  node_most : (o : Option ℕ) → ((k : ℕ) → o ≡ Some k → k < length mods) → node_at mods o ≤ length mods
  node_most None h = omega arith
  node_most (Some k) h = let lt = h k refl in omega arith

  if_most : (o : Option ℕ) (j : ℕ) (x : Name) → node_if mods o j x ≤ length mods
  if_most None j x = omega arith
  if_most (Some k) j x = elim (eqb_tells k j) [
    | inl y ↦ rw y.0 (node_most (place_in mods x) (λ n e. let r = place_within 0 n mods x e in omega arith))
    | inr n ↦ rw n.0 (omega arith)
  ]

  pub target_most : (names : List Name) (j : ℕ) (i : Inner) → target_of mods names j i ≤ length mods
  target_most names j i = if_most (place_in names i.name) j i.of_module

-- ---- the graph

node_edges : (f : Module → List ℕ) (ms : List Module) (n e t : ℕ) → slice_get (get_or (map f ms ++ [] ∷ []) n []) e ≡ Some t → (m : Module) × (slice_get ms n ≡ Some m) × (slice_get (f m) e ≡ Some t)
node_edges f [] zero e t is = cc
node_edges f [] (suc n) e t is = cc
node_edges f (m ∷ ms) zero e t is = (m, refl, is)
node_edges f (m ∷ ms) (suc n) e t is = node_edges f ms n e t is

edges_node : (f : Module → List ℕ) (ms : List Module) (n : ℕ) (m : Module) → slice_get ms n ≡ Some m → get_or (map f ms ++ [] ∷ []) n [] ≡ f m
edges_node f [] n m is = cc
edges_node f (x ∷ ms) zero m is = let same : x ≡ m = cc in ap f same
edges_node f (x ∷ ms) (suc n) m is = edges_node f ms n m is

count : (f : Module → List ℕ) (ms : List Module) → length (map f ms ++ [] ∷ []) ≡ suc (length ms)
count f [] = refl
count f (m ∷ ms) = ap suc (count f ms)

pub counted : (ms : List Module) → length (map module_name ms) ≡ length ms
counted [] = refl
counted (m ∷ ms) = ap suc (counted ms)

module _ (ms : List Module) where
  abbrev mods : List Name
  mods = map module_name ms

  pub nodes : length (graph_of ms) ≡ suc (length ms)
  nodes = count (module_targets mods) ms

  -- an edge of a node is one of a module's instances
  pub edge_of_module : (n e t : ℕ) → slice_get (targets_of (graph_of ms) n) e ≡ Some t →
      (m : Module) × (i : Inner) × (slice_get ms n ≡ Some m) × (slice_get (instances_in m) e ≡ Some i) × (t ≡ target_of mods (instance_names m) e i)
  edge_of_module n e t is =
      let r = node_edges (module_targets mods) ms n e t is in
      let k = target_at mods (instance_names r.0) 0 (instances_in r.0) e t r.2 in
      (r.0, k.0, r.1, k.1, k.2 ∙ ap (λ j. target_of mods (instance_names r.0) j k.0) (zero-add e))

  pub is_graph : IsGraph (graph_of ms)
  is_graph n e t is =
      let r = edge_of_module n e t is in
      let most = target_most mods (instance_names r.0) e r.1 in
      omega (arith, r.4, nodes, counted ms)

  -- an edge to a module that is there
  pub known_edge : (n e t : ℕ) → slice_get (targets_of (graph_of ms) n) e ≡ Some t → t < length ms →
      (m m' : Module) × (i : Inner) × (slice_get ms n ≡ Some m) × (slice_get (instances_in m) e ≡ Some i) × (instance_at (instances_in m) i.name ≡ Some i)
      × (module_at ms i.of_module ≡ Some m') × (slice_get ms t ≡ Some m') × (m'.name ≡ i.of_module)
  known_edge n e t is lt =
      let r = edge_of_module n e t is in
      let within : t < length mods = omega (arith, counted ms) in
      let k = known_target mods (instance_names r.0) e t r.1 (sym r.4) within in
      let p = module_placed ms r.1.of_module t k.1 in
      (r.0, p.0, r.1, r.2, r.3, instance_placed (instances_in r.0) r.1 e k.0 r.3, p.3, p.1, p.2)

  -- the edge of an instance that its name finds
  pub edge_by : (n : ℕ) (m m' : Module) (x : Name) (i : Inner) → slice_get ms n ≡ Some m → instance_at (instances_in m) x ≡ Some i → module_at ms i.of_module ≡ Some m' →
      (e t : ℕ) × (slice_get (targets_of (graph_of ms) n) e ≡ Some t) × (place_in mods m'.name ≡ Some t) × (slice_get ms t ≡ Some m')
  edge_by n m m' x i at found to =
      let p = inner_place (instances_in m) x i found in
      let q = module_place ms i.of_module m' to in
      let t = target_is mods (instance_names m) p.0 q.0 i p.1 q.1 in (
        p.0,
        q.0,
        ap (λ ts. slice_get ts p.0) (edges_node (module_targets mods) ms n m at)
            ∙ (edge_at mods (instance_names m) 0 (instances_in m) p.0 i p.2 ∙ ap Some (ap (λ j. target_of mods (instance_names m) j i) (zero-add p.0) ∙ t)),
        ap (place_in mods) q.3 ∙ q.1,
        q.2,
      )
