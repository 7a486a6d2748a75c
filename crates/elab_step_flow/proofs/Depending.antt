-- Edges of places as dependences of names.
use Rattle.std.proofs.Common.{◌≡◌, ℕ, zero, suc, ◌≤◌, ◌<◌, ◌⊎◌, ◌↔◌, inl, inr, Bool, List, [], ◌∷◌, ◌++◌, map, length, replicate, Vec, Global, arith, refl, sym, ap, ◌∙◌, subst}
use Rattle.std.specs.List.{flat_map}
use Rattle.std.proofs.lemmas.List.{length-replicate}
use Rattle.vlog_tree.specs.declared.item.Assign.{Assign}
use Rattle.vlog_tree.specs.declared.stmt.Lval.{Lval}
use Rattle.vlog_tree_runs.specs.declared.flat.Always.{Always}
use Rattle.vlog_tree_runs.specs.declared.flat.Flat.{Flat}
use Rattle.vlog_tree_runs.specs.declared.flat.Signal.{Signal}
use Rattle.vlog_tree_runs.specs.Places.{Name, Among}
use Rattle.vlog_tree_runs.specs.Blocks.{left_names}
use Rattle.vlog_tree_runs.specs.Cycles.{IsRegister}
use Rattle.elab_flat_faults.specs.Texts.{names_in, numbers_in}
use Rattle.elab_flat_laws.proofs.Lists.{among_map, map_among, among_flat, flat_among}
use Rattle.elab_flat_scopes.specs.Finding.{place_in}
use Rattle.elab_flat_faults.specs.Paths.{width_in}
use Rattle.elab_flat_faults.specs.Drivers.{parts_of, BlockDepends, DependsOn}
use Rattle.elab_step_laws.specs.Laws.{place_over}
use Rattle.elab_flat_drivers.specs.Parts.{reads_of}
use Rattle.elab_flat_drivers.specs.Claims.{part_name}
use Rattle.elab_flat_drivers.specs.Spots.{signal_name}
use Rattle.elab_flat_drivers.specs.Wanting.{left_reads}
use Rattle.elab_flat_drivers.proofs.Lacks.{registers, register_name, name_register}
use Rattle.elab_flat_drivers.proofs.Spots.{has_spot}
use Rattle.elab_flat_graphs.specs.Graphs.{graph_of, successors, IsGraph, Among as Lists}
use Rattle.elab_step_flow.specs.declared.edges.Edge.{Edge}
use Rattle.elab_step_flow.specs.Asked.{CanPass}
use Rattle.elab_step_flow.specs.Edges.{edge, part_place, part_places, pairs, assign_edges, AnyBlockEdge, AreDependences}
use Rattle.elab_step_flow.specs.Sets.{Has}
use Rattle.elab_step_flow.specs.Shows.{IsAt, Marks}
use Rattle.elab_step_flow.proofs.Marking.{parts_names}
use Rattle.elab_step_flow.proofs.Stating.{side_names, swapped, listed, listing}
use Rattle.elab_step_flow.proofs.Setting.{among_signals}
use Rattle.elab_step_flow.proofs.Placing.{place_name, place_of_name, shown_signal}
use Rattle.elab_step_flow.proofs.Showing.{at_lt}
use Rattle.elab_step_flow.proofs.Finding.{at_same}

-- ---- graphs without edges

abbrev Row : Type 0
Row = Vec ℕ Global

empty_row : (n i : ℕ) → successors (replicate n []) i ≡ []
empty_row zero i = refl
empty_row (suc n) zero = refl
empty_row (suc n) (suc i) = empty_row n i

pub graph_long : (rows : List Row) → length (graph_of rows) ≡ length rows
graph_long [] = refl
graph_long (r ∷ rows) = ap suc (graph_long rows)

pub rows_long : (rows : List Row) (n : ℕ) → graph_of rows ≡ replicate n [] → length rows ≡ n
rows_long rows n e = sym (graph_long rows) ∙ (ap length e ∙ length-replicate n [])

pub no_edges : (rows : List Row) (n i j : ℕ) → graph_of rows ≡ replicate n [] → Lists (successors (graph_of rows) i) j → ⊥
no_edges rows n i j e h = subst (λ z. Lists z j) (ap (λ g. successors g i) e ∙ empty_row n i) h

module _ (m : Flat) (can : CanPass m) where
  abbrev gs : List Signal
  gs = m.signals

  abbrev names : List Name
  names = map signal_name gs

  place_named : (qs : List Lval) (i : ℕ) (y : Name) → IsAt gs i y → Among (part_places names qs) i ↔ Among (map part_name qs) y
  place_named qs i y a = (there, back)
    where
      there : Among (part_places names qs) i → Among (map part_name qs) y
      there h =
          let r = among_flat (part_place names) qs i h in
          let same : part_name r.0 ≡ y = at_same gs i (part_name r.0) y (place_name gs (part_name r.0) i (listed (place_in names (part_name r.0)) i r.2)) a in
          subst (Among (map part_name qs)) same (map_among part_name qs r.0 r.1)

      back : Among (map part_name qs) y → Among (part_places names qs) i
      back h =
          let r = among_map part_name qs y h in
          flat_among (part_place names) qs r.0 i r.1 (listing (place_in names (part_name r.0)) i (ap (place_in names) r.2 ∙ place_of_name gs can.signals.distinct y i a))

  place_below : (qs : List Lval) (i : ℕ) → Among (part_places names qs) i → i < length gs
  place_below qs i h =
      let r = among_flat (part_place names) qs i h in
      at_lt gs i (part_name r.0) (place_name gs (part_name r.0) i (listed (place_in names (part_name r.0)) i r.2))

  -- ---- the edges of an assignment

  paired : (xs ys : List ℕ) (e : Edge) → Among (pairs xs ys) e → Among xs e.from × Among ys e.to
  paired xs ys e h =
      let r = among_flat (λ i. map (edge i) ys) xs e h in
      let q = among_map (edge r.0) ys e r.2 in
      (subst (Among xs) (ap (λ (z : Edge). z.from) q.2) r.1, subst (Among ys) (ap (λ (z : Edge). z.to) q.2) q.1)

  pairing : (xs ys : List ℕ) (i j : ℕ) → Among xs i → Among ys j → Among (pairs xs ys) (edge i j)
  pairing xs ys i j a b = flat_among (λ i. map (edge i) ys) xs i (edge i j) a (map_among (edge i) ys j b)

  abbrev Assigned : Name → Name → Type 0
  Assigned y z = (a : Assign) × Among m.assigns a × Among (left_names a.left) y × Among (flat_map names_in (a.right ∷ numbers_in a.left)) z

  assigned_edge : (i j : ℕ) (y z : Name) → IsAt gs i y → IsAt gs j z → Among (flat_map (assign_edges names) m.assigns) (edge i j) ↔ Assigned y z
  assigned_edge i j y z p q = (there, back)
    where
      there : Among (flat_map (assign_edges names) m.assigns) (edge i j) → Assigned y z
      there h =
          let r = among_flat (assign_edges names) m.assigns (edge i j) h in
          let a = r.0 in
          let k = paired (part_places names (parts_of a.left)) (part_places names (left_reads a.left ++ reads_of a.right)) (edge i j) r.2 in (
            a,
            r.1,
            subst (λ xs. Among xs y) (sym (parts_names a.left)) ((place_named (parts_of a.left) i y p).0 k.0),
            swapped (flat_map names_in (numbers_in a.left)) (names_in a.right) z (subst (λ xs. Among xs z) (side_names a.left a.right) ((place_named (left_reads a.left ++ reads_of a.right) j z q).0 k.1)),
          )

      back : Assigned y z → Among (flat_map (assign_edges names) m.assigns) (edge i j)
      back (a, among, left, reads) =
          flat_among (assign_edges names) m.assigns a (edge i j) among
          (pairing (part_places names (parts_of a.left)) (part_places names (left_reads a.left ++ reads_of a.right)) i j ((place_named (parts_of a.left) i y p).1 (subst (λ xs. Among xs y) (parts_names a.left) left))
          ((place_named (left_reads a.left ++ reads_of a.right) j z q).1 (subst (λ xs. Among xs z) (sym (side_names a.left a.right)) (swapped (names_in a.right) (flat_map names_in (numbers_in a.left)) z reads))))

  -- ---- all edges

  abbrev pub IsEdge : Edge → Type 0
  IsEdge e = Among (flat_map (assign_edges names) m.assigns) e ⊎ AnyBlockEdge gs m.blocks e

  pub edge_within : (e : Edge) → IsEdge e → (e.from < length gs) × (e.to < length gs)
  edge_within e (inl h) =
      let r = among_flat (assign_edges names) m.assigns e h in
      let k = paired (part_places names (parts_of r.0.left)) (part_places names (left_reads r.0.left ++ reads_of r.0.right)) e r.2 in
      (place_below (parts_of r.0.left) e.from k.0, place_below (left_reads r.0.left ++ reads_of r.0.right) e.to k.1)
  edge_within e (inr (k, a, (c, (y, z, p, q, d)))) = (at_lt gs e.from y p, at_lt gs e.to z q)

  edge_depends : (i j : ℕ) (y z : Name) → IsAt gs i y → IsAt gs j z → (IsRegister m y → ⊥) → IsEdge (edge i j) ↔ DependsOn m y z
  edge_depends i j y z p q free = (there, back)
    where
      there : IsEdge (edge i j) → DependsOn m y z
      there (inl h) = (free, inl ((assigned_edge i j y z p q).0 h))
      there (inr (k, a, (c, (y', z', p', q', d)))) =
          (free, inr (k, a, c, subst (λ x. BlockDepends (place_over gs) k.body y x) (at_same gs j z' z q' q) (subst (λ x. BlockDepends (place_over gs) k.body x z') (at_same gs i y' y p' p) d)))

      back : DependsOn m y z → IsEdge (edge i j)
      back (f, inl h) = inl ((assigned_edge i j y z p q).1 h)
      back (f, inr (k, a, c, d)) = inr (k, a, (c, (y, z, p, q, d)))

  -- ---- registers

  spotted : (i : ℕ) (x : Name) → IsAt gs i x → 0 < width_in (place_over gs) x
  spotted i x a =
      let g = shown_signal gs can.signals.distinct x i a in
      let some = can.signals.wide g.0 (among_signals gs i g.0 g.1) in
      let w : width_in (place_over gs) x ≡ g.0.width = g.2 in
      let least : 1 ≤ g.0.width = some.0 in
      omega arith

  pub registers_marked : (set : List Bool) (xs : List Name) → xs ≡ registers m → Marks gs set (λ x. Among xs x) → Marks gs set (λ x. IsRegister m x)
  registers_marked set xs e k i x a =
      let s = has_spot gs x 0 (spotted i x a) in (
        λ h. name_register m can.signals.narrow x s.0 s.1 (subst (λ z. Among z x) e ((k i x a).0 h)),
        λ h. (k i x a).1 (subst (λ z. Among z x) (sym e) (register_name m can.signals.narrow x h)),
      )

  -- ---- the graph

  module _ (barred : List Bool) (edges : List Edge) (rows : List Row) (marks : Marks gs barred (λ x. IsRegister m x)) (all : (e : Edge) → Among edges e ↔ IsEdge e)
      (graph : (i j : ℕ) → Lists (successors (graph_of rows) i) j ↔ ((Has barred i → ⊥) × Among edges (edge i j))) where
    pub graph_depends : AreDependences m (graph_of rows)
    graph_depends i j y z p q = (
      λ h. let r = (graph i j).0 h in (edge_depends i j y z p q (λ k. r.0 ((marks i y p).1 k))).0 ((all (edge i j)).0 r.1),
      λ h. (graph i j).1 (λ k. h.0 ((marks i y p).0 k), (all (edge i j)).1 ((edge_depends i j y z p q h.0).1 h)),
    )

    pub graph_within : length rows ≡ length gs → IsGraph (graph_of rows)
    graph_within long v w h = subst (λ n. w < n) (sym (graph_long rows ∙ long)) (edge_within (edge v w) ((all (edge v w)).0 ((graph v w).0 h).1)).1

-- the edges that were found, by the module's own lists
pub edges_all : (m : Flat) (gs : List Signal) (ns : List Name) (as' : List Assign) (ks : List Always) (items old new : List Edge) → gs ≡ m.signals → ns ≡ map signal_name gs → as' ≡ m.assigns → ks ≡ m.blocks
    → items ≡ new → old ≡ flat_map (assign_edges ns) as' → ((e : Edge) → Among new e ↔ (Among old e ⊎ AnyBlockEdge gs ks e))
    → (e : Edge) → Among items e ↔ (Among (flat_map (assign_edges (map signal_name m.signals)) m.assigns) e ⊎ AnyBlockEdge m.signals m.blocks e)
edges_all m gs ns as' ks items old new f g a k is made put e = (
  λ h. elim ((put e).0 (subst (λ z. Among z e) is h)) [ inl x ↦ inl (subst (λ z. Among z e) whole x) | inr x ↦ inr (subst (λ z. AnyBlockEdge m.signals z e) k (subst (λ z. AnyBlockEdge z ks e) f x)) ],
  λ h. subst (λ z. Among z e) (sym is)
      ((put e).1 (elim h [ inl x ↦ inl (subst (λ z. Among z e) (sym whole) x) | inr x ↦ inr (subst (λ z. AnyBlockEdge z ks e) (sym f) (subst (λ z. AnyBlockEdge m.signals z e) (sym k) x)) ])),
)
  where
    whole : old ≡ flat_map (assign_edges (map signal_name m.signals)) m.assigns
    whole = made ∙ (λ i. flat_map (assign_edges ((g ∙ ap (map signal_name) f) i)) (a i))
