-- Edges of dependences, one after another.
use Rattle.std.proofs.Common.{◌≡◌, ◌≢◌, ℕ, zero, suc, ◌+◌, ◌≤◌, ◌<◌, ◌⊎◌, ◌↔◌, inl, inr, false, List, [], ◌∷◌, ◌++◌, map, length, get_or, set, drop, Vec, Global, arith, refl, sym, ap, ◌∙◌, subst}
use Rattle.std.proofs.lemmas.Bool.{cases_eq}
use Rattle.vlog_tree_runs.specs.declared.flat.Always.{Always}
use Rattle.vlog_tree_runs.specs.declared.flat.Signal.{Signal}
use Rattle.vlog_tree_runs.specs.Places.{Among}
use Rattle.elab_flat_laws.proofs.Lists.{among_append, append_left, append_right, among_map, map_among}
use Rattle.elab_step_laws.specs.Flows.{block_flow}
use Rattle.elab_step_laws.specs.Laws.{place_over}
use Rattle.elab_step_laws.proofs.Walking.{passes_are_paths}
use Rattle.elab_flat_graphs.specs.Graphs.{graph_of, successors, Among as Lists}
use Rattle.elab_step_flow.specs.declared.edges.Edge.{Edge}
use Rattle.elab_step_flow.specs.Edges.{edge, IsInRows, IsBlockEdge, AnyBlockEdge}
use Rattle.elab_step_flow.specs.Sets.{Tables}
use Rattle.elab_step_flow.specs.Shows.{Shows}
use Rattle.elab_step_flow.proofs.Listing.{first_or, none_left}
use Rattle.elab_step_flow.proofs.Marking.{cut}
use Rattle.elab_step_flow.proofs.Showing.{at_lt, named_at}

-- ---- rows

-- the edges from one place
row_edge : (from : ℕ) (to : List ℕ) (e : Edge) → Among (map (edge from) to) e ↔ ((e.from ≡ from) × Among to e.to)
row_edge from to e = (there, back)
  where
    there : Among (map (edge from) to) e → (e.from ≡ from) × Among to e.to
    there h = let r = among_map (edge from) to e h in (ap (λ (z : Edge). z.from) (sym r.2), subst (λ k. Among to k) (ap (λ (z : Edge). z.to) r.2) r.1)

    back : (e.from ≡ from) × Among to e.to → Among (map (edge from) to) e
    back h = subst (λ z. Among (map (edge from) to) z) (λ k. edge (sym h.0 k) e.to) (map_among (edge from) to e.to h.1)

module _ (rows : ℕ → List ℕ) (from : ℕ) (old all next : List Edge) (row : List ℕ) where
  -- the edges from the next place
  pub row_added : ((e : Edge) → Among all e ↔ (Among old e ⊎ IsInRows from rows e)) → next ≡ all ++ map (edge from) row → row ≡ rows from → (e : Edge) → Among next e ↔ (Among old e ⊎ IsInRows (from + 1) rows e)
  row_added inv put is e = (λ h. there (among_append all (map (edge from) row) e (subst (λ z. Among z e) put h)), λ h. subst (λ z. Among z e) (sym put) (back h))
    where
      last : from < from + 1
      last = omega arith

      further : (k : ℕ) → k < from → k < from + 1
      further k h = omega arith

      there : Among all e ⊎ Among (map (edge from) row) e → Among old e ⊎ IsInRows (from + 1) rows e
      there (inl f) = elim ((inv e).0 f) [ inl g ↦ inl g | inr g ↦ inr (further e.from g.0, g.1) ]
      there (inr f) =
          let r = (row_edge from row e).0 f in
          inr (subst (λ k. k < from + 1) (sym r.0) last, subst (λ (z : List ℕ). Among z e.to) (is ∙ ap rows (sym r.0)) r.1)

      back : Among old e ⊎ IsInRows (from + 1) rows e → Among (all ++ map (edge from) row) e
      back (inl f) = append_left all (map (edge from) row) e ((inv e).1 (inl f))
      back (inr f) = elim (cases_eq e.from from) [
        | inl same ↦ append_right all (map (edge from) row) e ((row_edge from row e).1 (same, subst (λ (z : List ℕ). Among z e.to) (ap rows same ∙ sym is) f.1))
        | inr other ↦ (let ne : e.from ≢ from = other in let le : e.from < from + 1 = f.0 in append_left all (map (edge from) row) e ((inv e).1 (inr (omega arith, f.1))))
      ]

-- ---- the edges of a block

module _ (gs : List Signal) (k : Always) (s : Tables) (h : Shows gs s (block_flow (place_over gs) k.body)) (c : k.clocked ≡ false) where
  row_is_edge : (e : Edge) → IsInRows (length gs) s.through e ↔ IsBlockEdge gs k e
  row_is_edge e = (there, back)
    where
      there : IsInRows (length gs) s.through e → IsBlockEdge gs k e
      there (l, m) =
          let y = named_at gs e.from l in
          let z = named_at gs e.to (h.row e.from e.to y.0 y.1 m) in
          (c, (y.0, z.0, y.1, z.1, ((passes_are_paths (place_over gs) k.body).through y.0 z.0).0 ((h.through e.from e.to y.0 z.0 y.1 z.1).0 m)))

      back : IsBlockEdge gs k e → IsInRows (length gs) s.through e
      back (d, (y, z, a, b, q)) = (at_lt gs e.from y a, (h.through e.from e.to y z a b).1 (((passes_are_paths (place_over gs) k.body).through y z).1 q))

  pub block_edges : (n : ℕ) (rows : ℕ → List ℕ) (old new : List Edge) → n ≡ length gs → rows ≡ s.through → ((e : Edge) → Among new e ↔ (Among old e ⊎ IsInRows n rows e)) → (e : Edge) → Among new e ↔ (Among old e ⊎ IsBlockEdge gs k e)
  block_edges n rows old new f g put e = (
    λ a. elim ((put e).0 a) [ inl b ↦ inl b | inr b ↦ inr ((row_is_edge e).0 (subst (λ m. IsInRows m s.through e) f (subst (λ t. IsInRows n t e) g b))) ],
    λ a. (put e).1 (elim a [ inl b ↦ inl b | inr b ↦ inr (subst (λ t. IsInRows n t e) (sym g) (subst (λ m. IsInRows m s.through e) (sym f) ((row_is_edge e).1 b))) ]),
  )

-- ---- the edges of some blocks

module _ (gs : List Signal) (ks : List Always) (i : ℕ) where
  abbrev BlocksTo : ℕ → List Edge → List Edge → Type 0
  BlocksTo i old all = (e : Edge) → (Among all e ⊎ AnyBlockEdge gs (drop i ks) e) ↔ (Among old e ⊎ AnyBlockEdge gs ks e)

  pub blocks_next : (k : Always) (old all next : List Edge) → i < length ks → k ≡ get_or ks i k → BlocksTo i old all → ((e : Edge) → Among next e ↔ (Among all e ⊎ IsBlockEdge gs k e)) → BlocksTo (i + 1) old next
  blocks_next k old all next lt is inv put e = (λ h. (inv e).0 (there h), λ h. back ((inv e).1 h))
    where
      here : IsBlockEdge gs k e → AnyBlockEdge gs (drop i ks) e
      here q = (k, subst (λ z. Among z k) (sym (cut ks i k lt is)) (inl refl), q)

      later : AnyBlockEdge gs (drop (i + 1) ks) e → AnyBlockEdge gs (drop i ks) e
      later (j, m, q) = (j, subst (λ z. Among z j) (sym (cut ks i k lt is)) (inr m), q)

      there : Among next e ⊎ AnyBlockEdge gs (drop (i + 1) ks) e → Among all e ⊎ AnyBlockEdge gs (drop i ks) e
      there (inl f) = elim ((put e).0 f) [ inl g ↦ inl g | inr g ↦ inr (here g) ]
      there (inr f) = inr (later f)

      back : Among all e ⊎ AnyBlockEdge gs (drop i ks) e → Among next e ⊎ AnyBlockEdge gs (drop (i + 1) ks) e
      back (inl f) = inl ((put e).1 (inl f))
      back (inr (j, m, q)) = elim (first_or ks i k j lt is m) [ inl f ↦ inl ((put e).1 (inr (subst (λ z. IsBlockEdge gs z e) (sym f) q))) | inr f ↦ inr (j, f, q) ]

  pub blocks_end : (old all : List Edge) → length ks ≤ i → BlocksTo i old all → (e : Edge) → Among all e ↔ (Among old e ⊎ AnyBlockEdge gs ks e)
  blocks_end old all le inv e = (λ h. (inv e).0 (inl h), λ h. elim ((inv e).1 h) [ inl f ↦ f | inr f ↦ absurd (none_left ks i f.0 le f.1) ])

-- ---- a graph with one more edge

abbrev pub Row : Type 0
Row = Vec ℕ Global

contains_append : (xs : List ℕ) (y z : ℕ) → Lists (xs ++ y ∷ []) z ↔ (Lists xs z ⊎ (y ≡ z))
contains_append [] y z = (λ h. elim h [ inl f ↦ inr f | inr f ↦ absurd f ], λ h. elim h [ inl f ↦ absurd f | inr f ↦ inl f ])
contains_append (x ∷ xs) y z =
    let r = contains_append xs y z in (
      λ h. elim h [ inl f ↦ inl (inl f) | inr f ↦ elim (r.0 f) [ inl g ↦ inl (inr g) | inr g ↦ inr g ] ],
      λ h. elim h [ inl f ↦ elim f [ inl g ↦ inl g | inr g ↦ inr (r.1 (inl g)) ] | inr f ↦ inr (r.1 (inr f)) ],
    )

pub put_here : (rows : List Row) (k : ℕ) (row : Row) → k < length rows → successors (graph_of (set rows k row)) k ≡ row.items
put_here [] k row lt = absurd (omega arith)
put_here (r ∷ rows) zero row lt = refl
put_here (r ∷ rows) (suc k) row lt = put_here rows k row (omega arith)

pub put_apart : (rows : List Row) (k i : ℕ) (row : Row) → (k ≡ i → ⊥) → successors (graph_of (set rows k row)) i ≡ successors (graph_of rows) i
put_apart [] k i row ne = refl
put_apart (r ∷ rows) zero zero row ne = absurd (ne refl)
put_apart (r ∷ rows) zero (suc i) row ne = refl
put_apart (r ∷ rows) (suc k) zero row ne = refl
put_apart (r ∷ rows) (suc k) (suc i) row ne = put_apart rows k i row (λ e. ne (ap suc e))

pub row_there : (rows : List Row) (k : ℕ) (d : Row) → k < length rows → successors (graph_of rows) k ≡ (get_or rows k d).items
row_there [] k d lt = absurd (omega arith)
row_there (r ∷ rows) zero d lt = refl
row_there (r ∷ rows) (suc k) d lt = row_there rows k d (omega arith)

pub edge_put : (rows : List Row) (k to : ℕ) (old row d : Row) → k < length rows → old ≡ get_or rows k d → row.items ≡ old.items ++ to ∷ [] → (i j : ℕ) → Lists (successors (graph_of (set rows k row)) i) j
    ↔ (Lists (successors (graph_of rows) i) j ⊎ ((k ≡ i) × (to ≡ j)))
edge_put rows k to old row d lt is put i j = elim (cases_eq k i) [
  | inl e ↦ subst (λ m. Lists (successors (graph_of (set rows k row)) m) j ↔ (Lists (successors (graph_of rows) m) j ⊎ ((k ≡ m) × (to ≡ j)))) e here
  | inr ne ↦ (
      let same = put_apart rows k i row ne in
      (λ h. inl (subst (λ z. Lists z j) same h), λ h. elim h [ inl f ↦ subst (λ z. Lists z j) (sym same) f | inr f ↦ absurd (ne f.0) ])
      )
]
  where
    was : successors (graph_of rows) k ≡ old.items
    was = row_there rows k d lt ∙ ap (λ (r : Row). r.items) (sym is)

    now : successors (graph_of (set rows k row)) k ≡ successors (graph_of rows) k ++ to ∷ []
    now = put_here rows k row lt ∙ (put ∙ ap (λ xs. xs ++ to ∷ []) (sym was))

    here : Lists (successors (graph_of (set rows k row)) k) j ↔ (Lists (successors (graph_of rows) k) j ⊎ ((k ≡ k) × (to ≡ j)))
    here =
        let r = contains_append (successors (graph_of rows) k) to j in (
          λ h. elim (r.0 (subst (λ z. Lists z j) now h)) [ inl f ↦ inl f | inr f ↦ inr (refl, f) ],
          λ h. subst (λ z. Lists z j) (sym now) (r.1 (elim h [ inl f ↦ inl f | inr f ↦ inr f.1 ])),
        )
