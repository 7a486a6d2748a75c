-- Tables that say what flows say, one step after another.
use Rattle.std.proofs.Common.{◌≡◌, ℕ, zero, suc, ◌<◌, ◌⊎◌, ◌↔◌, inl, inr, true, List, [], ◌∷◌, ◌++◌, length, arith, refl, sym, subst}
use Rattle.std.specs.List.{flat_map}
use Rattle.vlog_tree.specs.declared.expr.Expr.{Expr}
use Rattle.vlog_tree.specs.declared.stmt.Lval.{Lval}
use Rattle.vlog_tree.specs.declared.stmt.CaseKind.{CaseKind}
use Rattle.vlog_tree.specs.declared.stmt.Stmt.{Stmt, Row_of-Stmt, end_of-Stmt, more_of-Stmt, Row_of-CaseItem, end_of-CaseItem, more_of-CaseItem}
use Rattle.vlog_tree.specs.declared.stmt.Stmt.TheVariants as s
use Rattle.vlog_tree_runs.specs.declared.flat.Signal.{Signal}
use Rattle.vlog_tree_runs.specs.Places.{Name, Among, Place}
use Rattle.vlog_tree_runs.specs.Blocks.{labels_in, left_names}
use Rattle.elab_flat_faults.specs.Texts.{names_in, numbers_in}
use Rattle.elab_flat_laws.proofs.Lists.{among_append, append_left, append_right}
use Rattle.elab_flat_faults.specs.Paths.{Sets, width_in}
use Rattle.elab_step_laws.specs.Flows.{Flow, nowhere, either, only_if, IsUnset, Uses, after_reads, after_assignment, within, flow, row_flow, items_flow}
use Rattle.elab_step_laws.specs.Laws.{place_over}
use Rattle.elab_step_flow.specs.Sets.{Tables, HasBit, is_open, CountsIn, AnyOf}
use Rattle.elab_step_flow.specs.Shows.{IsAt, ArePlacesOf, Shows, AreDeclared, AreAllDeclared, RowDeclared, ItemsDeclared}
use Rattle.elab_step_flow.specs.Passes.{ReadsAt, ReadsTo, CountTo, MeetTo, SetTo, AssignTo, LeadsPast, PastTo, Passes, RowPasses, ItemsPass}
use Rattle.elab_step_flow.proofs.Bits.{open_from, bit_of_open}

pub at_lt : (gs : List Signal) (i : ℕ) (x : Name) → IsAt gs i x → i < length gs
at_lt [] i x h = absurd h
at_lt (g ∷ gs) zero x h = omega arith
at_lt (g ∷ gs) (suc i) x h = let r = at_lt gs i x h in omega arith

pub named_at : (gs : List Signal) (i : ℕ) → i < length gs → (x : Name) × IsAt gs i x
named_at [] i h = absurd (omega arith)
named_at (g ∷ gs) zero h = (g.name, refl)
named_at (g ∷ gs) (suc i) h = named_at gs i (omega arith)

module _ (gs : List Signal) where
  abbrev p : Place
  p = place_over gs

  module _ (s : Tables) (w : Flow) (h : Shows gs s w) where
    -- an open word is that of a name with an unset bit
    pub open_is : (i : ℕ) (x : Name) → IsAt gs i x → (is_open (s.unset i) ≡ true) ↔ IsUnset p w x
    open_is i x a = (
      λ o. let r = bit_of_open (s.unset i) o in let lt = h.clear i r.0 x a r.1 in (r.0, lt, (h.unset i r.0 x a lt).0 r.1),
      λ u. open_from (s.unset i) u.0 ((h.unset i u.0 x a u.1).1 u.2),
    )

    -- what places count as
    pub uses_are : (as' : List Expr) (read : List ℕ) → AreDeclared gs as' → ReadsAt gs as' read → (j : ℕ) (z : Name) → IsAt gs j z → CountsIn read s j ↔ Uses p w as' z
    uses_are as' read d m j z a = (there, back)
      where
        there : CountsIn read s j → Uses p w as' z
        there (i, r, inl (e, o)) = (z, (m.each j z a).0 (subst (λ k. Among read k) (sym e) r), inl (refl, (open_is j z a).0 (subst (λ k. is_open (s.unset k) ≡ true) (sym e) o)))
        there (i, r, inr t) = let y = named_at gs i (m.within i r) in (y.0, (m.each i y.0 y.1).0 r, inr ((h.through i j y.0 z y.1 a).0 t))

        back : Uses p w as' z → CountsIn read s j
        back (y, r, inl (e, u)) = (j, (m.each j z a).1 (subst (λ x. Among (flat_map names_in as') x) (sym e) r), inl (refl, (open_is j z a).1 (subst (λ x. IsUnset p w x) (sym e) u)))
        back (y, r, inr t) = let i = d y r in (i.0, (m.each i.0 y i.1).1 r, inr ((h.through i.0 j y z i.1 a).1 t))

    -- they are places of signals
    pub counts_within : (as' : List Expr) (read : List ℕ) → ReadsAt gs as' read → (j : ℕ) → CountsIn read s j → j < length gs
    counts_within as' read m j (i, r, inl (e, o)) = subst (λ k. k < length gs) (sym e) (m.within i r)
    counts_within as' read m j (i, r, inr t) = let y = named_at gs i (m.within i r) in h.row i j y.0 y.1 t

    -- after expressions are read
    pub reads_show : (as' : List Expr) (read : List ℕ) (t : Tables) → ReadsAt gs as' read → ReadsTo read s t → Shows gs t (after_reads p as' w)
    reads_show as' read t m r = record {
      unset = λ i b x a lt. subst (λ (ms : ℕ → ℕ). HasBit ms i b ↔ w.unset x b) (sym r.unset) (h.unset i b x a lt);
      clear = λ i b x a o. h.clear i b x a (subst (λ (ms : ℕ → ℕ). HasBit ms i b) r.unset o);
      through = λ i j y z a c. subst (λ (rows : ℕ → List ℕ). Among (rows i) j ↔ w.through y z) (sym r.through) (h.through i j y z a c);
      row = λ i j y a o. h.row i j y a (subst (λ (rows : ℕ → List ℕ). Among (rows i) j) r.through o);
      outside = record {
        within = λ i o. elim ((r.outside i).0 o) [ inl f ↦ h.outside.within i f | inr f ↦ m.within i f.0 ];
        each = λ i x a. (there i x a, back i x a);
      };
    }
      where
        there : (i : ℕ) (x : Name) → IsAt gs i x → Among t.outside i → (after_reads p as' w).outside x
        there i x a o = elim ((r.outside i).0 o) [ inl f ↦ inr ((h.outside.each i x a).0 f) | inr f ↦ inl ((m.each i x a).0 f.0, (open_is i x a).0 f.1) ]

        back : (i : ℕ) (x : Name) → IsAt gs i x → (after_reads p as' w).outside x → Among t.outside i
        back i x a (inl k) = (r.outside i).1 (inr ((m.each i x a).1 k.0, (open_is i x a).1 k.1))
        back i x a (inr k) = (r.outside i).1 (inl ((h.outside.each i x a).1 k))

    -- the conditions around a branch
    pub within_marks : (as' : List Expr) (read around inner : List ℕ) (P : Name → Type 0) → AreDeclared gs as' → ReadsAt gs as' read → ArePlacesOf gs around P → CountTo around read s inner →
        ArePlacesOf gs inner (within p P w as')
    within_marks as' read around inner P d m c t = record {
      within = λ j k. elim ((t j).0 k) [ inl f ↦ counts_within as' read m j f | inr f ↦ c.within j f ];
      each = λ j z a. (
        λ k. elim ((t j).0 k) [ inl f ↦ inl ((uses_are as' read d m j z a).0 f) | inr f ↦ inr ((c.each j z a).0 f) ],
        λ k. (t j).1 (elim k [ inl f ↦ inl ((uses_are as' read d m j z a).1 f) | inr f ↦ inr ((c.each j z a).1 f) ]),
      );
    }

  -- an assignment
  pub set_shows : (left : Lval) (sources : List ℕ) (s t : Tables) (v : Flow) (S : Name → Type 0) → Shows gs s v → ArePlacesOf gs sources S → SetTo gs left sources s t →
      Shows gs t (record { unset = λ x b. v.unset x b × (Sets p left x b → ⊥); through = λ y z. (Among (left_names left) y × S z) ⊎ v.through y z; outside = v.outside })
  set_shows left sources s t v S h m k = record {
    unset = λ i b x a lt. (λ o. let r = (k.unset i b x a lt).0 o in ((h.unset i b x a lt).0 r.0, r.1), λ o. (k.unset i b x a lt).1 ((h.unset i b x a lt).1 o.0, o.1));
    clear = λ i b x a o. h.clear i b x a (k.clear i b o);
    through = λ i j y z a c. (
      λ o. elim ((k.through i j y a).0 o) [ inl f ↦ inl (f.0, (m.each j z c).0 f.1) | inr f ↦ inr ((h.through i j y z a c).0 f) ],
      λ o. (k.through i j y a).1 (elim o [ inl f ↦ inl (f.0, (m.each j z c).1 f.1) | inr f ↦ inr ((h.through i j y z a c).1 f) ]),
    );
    row = λ i j y a o. elim ((k.through i j y a).0 o) [ inl f ↦ m.within j f.1 | inr f ↦ h.row i j y a f ];
    outside = subst (λ (z : List ℕ). ArePlacesOf gs z v.outside) (sym k.outside) h.outside;
  }

  -- ---- where paths meet

  -- some tables say, together, what a flow says
  record AllShow (us : List Tables) (w : Flow) : Type 0 where
    pub unset : (i b : ℕ) (x : Name) → IsAt gs i x → b < width_in p x → AnyOf us (λ u. HasBit u.unset i b) ↔ w.unset x b
    pub clear : (i b : ℕ) (x : Name) → IsAt gs i x → AnyOf us (λ u. HasBit u.unset i b) → b < width_in p x
    pub through : (i j : ℕ) (y z : Name) → IsAt gs i y → IsAt gs j z → AnyOf us (λ u. Among (u.through i) j) ↔ w.through y z
    pub row : (i j : ℕ) (y : Name) → IsAt gs i y → AnyOf us (λ u. Among (u.through i) j) → j < length gs
    pub within : (i : ℕ) → AnyOf us (λ u. Among u.outside i) → i < length gs
    pub outside : (i : ℕ) (x : Name) → IsAt gs i x → AnyOf us (λ u. Among u.outside i) ↔ w.outside x

  meet_shows : (us : List Tables) (w : Tables) (v : Flow) → AllShow us v → MeetTo us w → Shows gs w v
  meet_shows us w v h m = record {
    unset = λ i b x a lt. then (m.unset i b) (h.unset i b x a lt);
    clear = λ i b x a o. h.clear i b x a ((m.unset i b).0 o);
    through = λ i j y z a c. then (m.through i j) (h.through i j y z a c);
    row = λ i j y a o. h.row i j y a ((m.through i j).0 o);
    outside = record { within = λ i o. h.within i ((m.outside i).0 o); each = λ i x a. then (m.outside i) (h.outside i x a) };
  }
    where
      then : {A B C : Type 0} → A ↔ B → B ↔ C → A ↔ C
      then f g = (λ a. g.0 (f.0 a), λ c. f.1 (g.1 c))

  none_show : AllShow [] nowhere
  none_show = record {
    unset = λ i b x a lt. (λ o. o.1, λ o. absurd o);
    clear = λ i b x a o. absurd o.1;
    through = λ i j y z a c. (λ o. o.1, λ o. absurd o);
    row = λ i j y a o. absurd o.1;
    within = λ i o. absurd o.1;
    outside = λ i x a. (λ o. o.1, λ o. absurd o);
  }

  one_of : (u : Tables) (P : Tables → Type 0) → AnyOf (u ∷ []) P ↔ P u
  one_of u P = (there, λ h. (u, inl refl, h))
    where
      there : AnyOf (u ∷ []) P → P u
      there (z, inl e, h) = subst P (sym e) h
      there (z, inr e, h) = absurd e

  one_shows : (u : Tables) (v : Flow) → Shows gs u v → AllShow (u ∷ []) v
  one_shows u v h = record {
    unset = λ i b x a lt. let k = one_of u (λ z. HasBit z.unset i b) in (λ o. (h.unset i b x a lt).0 (k.0 o), λ o. k.1 ((h.unset i b x a lt).1 o));
    clear = λ i b x a o. h.clear i b x a ((one_of u (λ z. HasBit z.unset i b)).0 o);
    through = λ i j y z a c. let k = one_of u (λ s. Among (s.through i) j) in (λ o. (h.through i j y z a c).0 (k.0 o), λ o. k.1 ((h.through i j y z a c).1 o));
    row = λ i j y a o. h.row i j y a ((one_of u (λ s. Among (s.through i) j)).0 o);
    within = λ i o. h.outside.within i ((one_of u (λ s. Among s.outside i)).0 o);
    outside = λ i x a. let k = one_of u (λ s. Among s.outside i) in (λ o. (h.outside.each i x a).0 (k.0 o), λ o. k.1 ((h.outside.each i x a).1 o));
  }

  either_of : (us vs : List Tables) (P : Tables → Type 0) → AnyOf (us ++ vs) P ↔ (AnyOf us P ⊎ AnyOf vs P)
  either_of us vs P = (
    λ h. elim (among_append us vs h.0 h.1) [ inl f ↦ inl (h.0, f, h.2) | inr f ↦ inr (h.0, f, h.2) ],
    λ h. elim h [ inl f ↦ (f.0, append_left us vs f.0 f.1, f.2) | inr f ↦ (f.0, append_right us vs f.0 f.1, f.2) ],
  )

  both_show : (us vs : List Tables) (v w : Flow) → AllShow us v → AllShow vs w → AllShow (us ++ vs) (either v w)
  both_show us vs v w h k = record {
    unset = λ i b x a lt. sides (either_of us vs (λ u. HasBit u.unset i b)) (h.unset i b x a lt) (k.unset i b x a lt);
    clear = λ i b x a o. elim ((either_of us vs (λ u. HasBit u.unset i b)).0 o) [ inl f ↦ h.clear i b x a f | inr f ↦ k.clear i b x a f ];
    through = λ i j y z a c. sides (either_of us vs (λ u. Among (u.through i) j)) (h.through i j y z a c) (k.through i j y z a c);
    row = λ i j y a o. elim ((either_of us vs (λ u. Among (u.through i) j)).0 o) [ inl f ↦ h.row i j y a f | inr f ↦ k.row i j y a f ];
    within = λ i o. elim ((either_of us vs (λ u. Among u.outside i)).0 o) [ inl f ↦ h.within i f | inr f ↦ k.within i f ];
    outside = λ i x a. sides (either_of us vs (λ u. Among u.outside i)) (h.outside i x a) (k.outside i x a);
  }
    where
      sides : {A B C D E : Type 0} → A ↔ (B ⊎ C) → B ↔ D → C ↔ E → A ↔ (D ⊎ E)
      sides f g i = (
        λ a. elim (f.0 a) [ inl b ↦ inl (g.0 b) | inr c ↦ inr (i.0 c) ],
        λ q. f.1 (elim q [ inl d ↦ inl (g.1 d) | inr e ↦ inr (i.1 e) ]),
      )

  -- what leads past the items of a case statement
  past_shows : (kind : CaseKind) (a : Expr) {c : _} (row : Row_of-CaseItem c) (s : Tables) (past : List Tables) (v : Flow) → Shows gs s v → PastTo gs kind a row s past → AllShow past (only_if (LeadsPast gs kind a row) v)
  past_shows kind a row s past v h (inl (leads, e)) = subst (λ z. AllShow z (only_if (LeadsPast gs kind a row) v)) (sym e) (one_shows s (only_if (LeadsPast gs kind a row) v) under)
    where
      under : Shows gs s (only_if (LeadsPast gs kind a row) v)
      under = record {
        unset = λ i b x a lt. (λ o. (leads, (h.unset i b x a lt).0 o), λ o. (h.unset i b x a lt).1 o.1);
        clear = h.clear;
        through = λ i j y z a c. (λ o. (leads, (h.through i j y z a c).0 o), λ o. (h.through i j y z a c).1 o.1);
        row = h.row;
        outside = record { within = h.outside.within; each = λ i x a. (λ o. (leads, (h.outside.each i x a).0 o), λ o. (h.outside.each i x a).1 o.1) };
      }
  past_shows kind a row s past v h (inr (never, e)) = subst (λ z. AllShow z (only_if (LeadsPast gs kind a row) v)) (sym e) (record {
    unset = λ i b x a lt. (λ o. absurd o.1, λ o. absurd (never o.0));
    clear = λ i b x a o. absurd o.1;
    through = λ i j y z a c. (λ o. absurd o.1, λ o. absurd (never o.0));
    row = λ i j y a o. absurd o.1;
    within = λ i o. absurd o.1;
    outside = λ i x a. (λ o. absurd o.1, λ o. absurd (never o.0));
  })

  -- ---- statements

  assign_shows : (around : List ℕ) (P : Name → Type 0) (left : Lval) (right : Expr) (s t : Tables) (v : Flow) → AreDeclared gs (right ∷ numbers_in left) → ArePlacesOf gs around P → Shows gs s v
      → AssignTo gs around left right s t → Shows gs t (after_assignment p P left right v)
  assign_shows around P left right s t v d m h k =
      set_shows left k.sources k.middle t (after_reads p (right ∷ numbers_in left) v) (within p P v (right ∷ numbers_in left))
      (reads_show s v h (right ∷ numbers_in left) k.enters.read k.middle k.enters.marks k.enters.reads)
      (within_marks s v h (right ∷ numbers_in left) k.enters.read around k.sources P d k.enters.marks m k.enters.counts) k.sets

  -- all names in a statement are those of signals
  mutual
    pub passes_show : (body : Stmt) (around : List ℕ) (P : Name → Type 0) (s t : Tables) (v : Flow) → AreAllDeclared gs body → ArePlacesOf gs around P → Shows gs s v → Passes gs around body s t
        → Shows gs t (flow p P body v)
    passes_show s.Empty around P v w f d m h k = subst (λ z. Shows gs z f) (sym k) h
    passes_show (s.Block' g i row) around P v w f d m h k = row_show row around P v w f d m h k
    passes_show (s.If' a g (more_of-Stmt body end_of-Stmt)) around P v w f d m h (t, u, inner, e, b, j) =
        let r = reads_show v f h (a ∷ []) e.read t e.marks e.reads in
        let k = passes_show body inner _ t u _ d.1 (within_marks v f h (a ∷ []) e.read around inner P d.0 e.marks m e.counts) r b in
        meet_shows (u ∷ t ∷ []) w _ (both_show (u ∷ []) (t ∷ []) _ _ (one_shows u _ k) (one_shows t _ r)) j
    passes_show (s.IfElse' a g (more_of-Stmt body end_of-Stmt) i (more_of-Stmt other end_of-Stmt)) around P v w f d m h (t, u, u', inner, e, b, c, j) =
        let r = reads_show v f h (a ∷ []) e.read t e.marks e.reads in
        let q = within_marks v f h (a ∷ []) e.read around inner P d.0 e.marks m e.counts in
        meet_shows (u ∷ u' ∷ []) w _ (both_show (u ∷ []) (u' ∷ []) _ _ (one_shows u _ (passes_show body inner _ t u _ d.1 q r b)) (one_shows u' _ (passes_show other inner _ t u' _ d.2 q r c))) j
    passes_show (s.Case' kind a g row) around P v w f d m h (t, us, past, inner, e, o, k, j) =
        let r = reads_show v f h (a ∷ labels_in row) e.read t e.marks e.reads in
        let q = within_marks v f h (a ∷ labels_in row) e.read around inner P d.0 e.marks m e.counts in
        meet_shows (us ++ past) w _ (both_show us past _ _ (items_show row inner _ t us _ d.1 q r k) (past_shows kind a row t past _ r o)) j
    passes_show (s.Blocking left right) around P v w f d m h k = assign_shows around P left right v w f d m h k
    passes_show (s.Nonblocking left right) around P v w f d m h k = assign_shows around P left right v w f d m h k

    row_show : {c : _} (row : Row_of-Stmt c) (around : List ℕ) (P : Name → Type 0) (s t : Tables) (v : Flow) → RowDeclared gs row → ArePlacesOf gs around P → Shows gs s v → RowPasses gs around row s t
        → Shows gs t (row_flow p P row v)
    row_show end_of-Stmt around P v w f d m h k = subst (λ z. Shows gs z f) (sym k) h
    row_show (more_of-Stmt a rest) around P v w f d m h (u, b, c) = row_show rest around P u w _ d.1 m (passes_show a around P v u f d.0 m h b) c

    items_show : {c : _} (row : Row_of-CaseItem c) (around : List ℕ) (P : Name → Type 0) (s : Tables) (us : List Tables) (v : Flow) → ItemsDeclared gs row → ArePlacesOf gs around P → Shows gs s v
        → ItemsPass gs around row s us → AllShow us (items_flow p P row v)
    items_show end_of-CaseItem around P s us v d m h k = subst (λ z. AllShow z nowhere) (sym k) none_show
    items_show (more_of-CaseItem labels body rest) around P s us v d m h (u, others, b, k, e) =
        subst (λ z. AllShow z (either (flow p P body v) (items_flow p P rest v))) (sym e)
        (both_show (u ∷ []) others _ _ (one_shows u _ (passes_show body around P s u v d.0 m h b)) (items_show rest around P s others v d.1 m h k))
