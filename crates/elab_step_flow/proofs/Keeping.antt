-- What a statement does among the signals that it names, it does among all.
use Rattle.std.proofs.Common.{◌≡◌, ℕ, ◌<◌, ◌⊎◌, ◌↔◌, inl, inr, List, [], ◌++◌, map, length, get_or, Option, Some, None, sym, ap, ◌∙◌, subst}
use Rattle.std.specs.Prelude.{slice_index, IfSome, IfNone}
use Rattle.vlog_tree.specs.declared.stmt.Stmt.{Stmt}
use Rattle.vlog_tree_runs.specs.declared.flat.Always.{Always}
use Rattle.vlog_tree_runs.specs.declared.flat.Signal.{Signal}
use Rattle.vlog_tree_runs.specs.Places.{Name, Among, Place}
use Rattle.elab_flat_laws.proofs.Lists.{among_append, append_left, append_right, among_map, map_among}
use Rattle.elab_flat_laws.proofs.Lows.{at_among}
use Rattle.elab_step_laws.specs.Laws.{place_over, AreVectors as AreNoMemories}
use Rattle.elab_step_flow.specs.Asked.{AreVectors, Misses, ReadsBesides, OfSignal}
use Rattle.elab_step_flow.specs.Edges.{edge, moved_edge, IsBlockEdge}
use Rattle.elab_step_flow.specs.declared.edges.Edge.{Edge}
use Rattle.elab_step_flow.specs.Own.{names_of, DeclareAlike, AreOwn}
use Rattle.elab_step_flow.specs.Sets.{at}
use Rattle.elab_step_flow.specs.Shows.{IsAt}
use Rattle.elab_step_flow.proofs.Placing.{named_signal}
use Rattle.elab_step_flow.proofs.Agreeing.{misses_moves, unset_moves, depends_moves, outside_moves}
use Rattle.elab_step_flow.proofs.Choosing.{got, got_lt, signal_place, name_there, whole_place}
use Rattle.elab_step_flow.proofs.Naming.{depends_named}
use Rattle.elab_step_flow.proofs.Owning.{no_memories}

-- ---- among its own signals and among all

module _ (gs : List Signal) (v : AreVectors gs) (body : Stmt) (places : List ℕ) (hs : List Signal) (own : AreOwn gs body places hs) where
  memoryless : AreNoMemories gs
  memoryless = no_memories gs v

  memoryless' : AreNoMemories hs
  memoryless' = no_memories hs own.signals

  alike' : DeclareAlike hs gs (names_of body)
  alike' x m = sym (own.alike x m)

  pub misses_whole : (x : Name) → Misses (place_over hs) body x → Misses (place_over gs) body x
  misses_whole x (b, lt, d, u) =
      let r = misses_moves hs gs memoryless' memoryless body alike' x b lt d in
      (b, r.0, r.1, unset_moves hs gs memoryless' memoryless body alike' x b u)

  pub misses_own : (x : Name) → Misses (place_over gs) body x → Misses (place_over hs) body x
  misses_own x (b, lt, d, u) =
      let r = misses_moves gs hs memoryless memoryless' body own.alike x b lt d in
      (b, r.0, r.1, unset_moves gs hs memoryless memoryless' body own.alike x b u)

  pub besides_whole : (listed : List Name) (x : Name) → ReadsBesides (place_over hs) body listed x → ReadsBesides (place_over gs) body listed x
  besides_whole listed x (r, absent) = (outside_moves hs gs memoryless' memoryless body alike' x r, absent)

  pub besides_own : (listed : List Name) (x : Name) → ReadsBesides (place_over gs) body listed x → ReadsBesides (place_over hs) body listed x
  besides_own listed x (r, absent) = (outside_moves gs hs memoryless memoryless' body own.alike x r, absent)

  -- a place among its own signals is within the list of their places, which gives the one among all
  pub place_kept : (j d : ℕ) (x : Name) → IsAt hs j x → (j < length places) × IsAt gs (get_or places j d) x
  place_kept j d x a =
      let r = whole_place gs places hs own.there j x a in
      (got_lt places j r.0 r.1, subst (λ k. IsAt gs k x) (sym (got places j r.0 d r.1)) r.2)

  -- the place of a name among its own signals
  named_own : (i : ℕ) (x : Name) → IsAt gs i x → Among (names_of body) x → (j : ℕ) × IsAt hs j x × (slice_index places j ≡ i)
  named_own i x a m =
      let g = named_signal gs v.distinct x i a in
      let k = at_among hs x g.0 (sym (own.alike x m) ∙ g.2) in
      let j = signal_place hs g.0 k.0 in
      let b = name_there hs j.0 g.0 x j.1 k.1 in
      (j.0, b, v.distinct (slice_index places j.0) i x (place_kept j.0 0 x b).1 a)

-- ---- what is found among its own signals

module _ (gs : List Signal) (v : AreVectors gs) (body : Stmt) (places : List ℕ) (hs : List Signal) (own : AreOwn gs body places hs) (inner : List Signal) (ps : List ℕ) (e : inner ≡ hs) (f : ps ≡ places)
    (Q : Place → Name → Type 0) (o : Option ℕ) where
  module _ (j : ℕ) (is : o ≡ Some j) (h : IfSome o (λ i. OfSignal inner i (Q (place_over inner)))) where
    found : OfSignal hs j (Q (place_over hs))
    found = subst (λ z. OfSignal z j (Q (place_over z))) e (subst (λ z. IfSome z (λ i. OfSignal inner i (Q (place_over inner)))) is h)

    pub found_within : j < length ps
    found_within = subst (λ z. j < length z) (sym f) (place_kept gs v body places hs own j 0 found.0 found.1).0

    pub found_kept : ((x : Name) → Q (place_over hs) x → Q (place_over gs) x) → (m : ℕ) → m ≡ slice_index ps j → OfSignal gs m (Q (place_over gs))
    found_kept move m at = (
      found.0,
      subst (λ k. IsAt gs k found.0) (sym (at ∙ ap (λ (z : List ℕ). slice_index z j) f)) (place_kept gs v body places hs own j 0 found.0 found.1).1,
      move found.0 found.2,
    )

  pub none_kept : o ≡ None → IfNone o ((x : Name) → Q (place_over inner) x → ⊥) → ((x : Name) → Q (place_over gs) x → Q (place_over hs) x) → (x : Name) → Q (place_over gs) x → ⊥
  none_kept is h move x q =
      let none : (x : Name) → Q (place_over inner) x → ⊥ = subst (λ z. IfNone z ((x : Name) → Q (place_over inner) x → ⊥)) is h in
      none x (subst (λ z. Q (place_over z) x) (sym e) (move x q))

-- ---- edges among its own signals and among all

module _ (gs : List Signal) (v : AreVectors gs) (k : Always) (places : List ℕ) (hs : List Signal) (own : AreOwn gs k.body places hs) where
  edge_whole : (e : Edge) → IsBlockEdge hs k e → IsBlockEdge gs k (moved_edge places e)
  edge_whole e (c, (y, z, a, b, d)) = (
    c,
    (
      y,
      z,
      (place_kept gs v k.body places hs own e.from 0 y a).1,
      (place_kept gs v k.body places hs own e.to 0 z b).1,
      depends_moves hs gs (memoryless' gs v k.body places hs own) (memoryless gs v k.body places hs own) k.body (alike' gs v k.body places hs own) y z d,
    ),
  )

  edge_own : (e : Edge) → IsBlockEdge gs k e → (f : Edge) × IsBlockEdge hs k f × (moved_edge places f ≡ e)
  edge_own e (c, (y, z, a, b, d)) =
      let n = depends_named (place_over gs) k.body y z d in
      let i = named_own gs v k.body places hs own e.from y a n.0 in
      let j = named_own gs v k.body places hs own e.to z b n.1 in (
        edge i.0 j.0,
        (c, (y, z, i.1, j.1, depends_moves gs hs (memoryless gs v k.body places hs own) (memoryless' gs v k.body places hs own) k.body own.alike y z d)),
        λ r. edge (i.2 r) (j.2 r),
      )

  -- the edges that were added to none, by copies of the signals
  pub own_edges : (inner : List Signal) (old edges : List Edge) → inner ≡ hs → old ≡ [] → ((e : Edge) → Among edges e ↔ (Among old e ⊎ IsBlockEdge inner k e)) → (e : Edge) → Among edges e ↔ (Among [] e ⊎ IsBlockEdge hs k e)
  own_edges inner old edges f g h e = subst (λ z. Among edges e ↔ (Among [] e ⊎ IsBlockEdge z k e)) f (subst (λ (z : List Edge). Among edges e ↔ (Among z e ⊎ IsBlockEdge inner k e)) g (h e))

  module _ (edges : List Edge) (all : (e : Edge) → Among edges e ↔ (Among [] e ⊎ IsBlockEdge hs k e)) where
    is_own : (e : Edge) → Among edges e → IsBlockEdge hs k e
    is_own e m = elim ((all e).0 m) [ inl f ↦ absurd f | inr f ↦ f ]

    pub edge_kept : (e : Edge) → Among edges e → (e.from < length places) × (e.to < length places)
    edge_kept e m =
        let h = is_own e m in
        ((place_kept gs v k.body places hs own e.from 0 h.1.0 h.1.2).0, (place_kept gs v k.body places hs own e.to 0 h.1.1 h.1.3).0)

    pub edges_moved : (old new : List Edge) → new ≡ old ++ map (moved_edge places) edges → (e : Edge) → Among new e ↔ (Among old e ⊎ IsBlockEdge gs k e)
    edges_moved old new put e = (λ h. there (among_append old (map (moved_edge places) edges) e (subst (λ z. Among z e) put h)), λ h. subst (λ z. Among z e) (sym put) (back h))
      where
        there : Among old e ⊎ Among (map (moved_edge places) edges) e → Among old e ⊎ IsBlockEdge gs k e
        there (inl f) = inl f
        there (inr f) = let r = among_map (moved_edge places) edges e f in inr (subst (λ z. IsBlockEdge gs k z) r.2 (edge_whole r.0 (is_own r.0 r.1)))

        back : Among old e ⊎ IsBlockEdge gs k e → Among (old ++ map (moved_edge places) edges) e
        back (inl f) = append_left old (map (moved_edge places) edges) e f
        back (inr f) =
            let r = edge_own e f in
            append_right old (map (moved_edge places) edges) e (subst (λ z. Among (map (moved_edge places) edges) z) r.2 (map_among (moved_edge places) edges r.0 ((all r.0).1 (inr r.1))))
