-- Branches of a statement, one after another from the same tables, and where they end.
use Rattle.std.proofs.Common.{◌≡◌, ℕ, ◌⊎◌, ◌↔◌, inl, inr, List, [], ◌∷◌, ◌++◌, map, take, drop, length, refl, sym, ap, ◌∙◌, subst}
use Rattle.std.specs.Int.{bit_at}
use Rattle.std.proofs.lemmas.Bool.{cases_eq}
use Rattle.vlog_tree.specs.declared.stmt.Stmt.{Stmt}
use Rattle.vlog_tree_runs.specs.declared.flat.Signal.{Signal}
use Rattle.vlog_tree_runs.specs.Places.{Among}
use Rattle.elab_flat_laws.proofs.Lists.{among_append, append_left, append_right}
use Rattle.elab_flat_drivers.specs.Spots.{signal_name}
use Rattle.elab_step_flow.specs.Assigned.{IsAssigned, assigned_in}
use Rattle.elab_step_flow.specs.Branches.{SpotBit, SpotHas, SpotsAdded, PutTo, BlankTo, AddTo, BranchTo, Spares, Gathered, EndTo}
use Rattle.elab_step_flow.specs.declared.branches.Branches.{Branches}
use Rattle.elab_step_flow.specs.declared.branches.Spot.{Spot}
use Rattle.elab_step_flow.specs.Edges.{part_places}
use Rattle.elab_step_flow.specs.Passes.{MeetTo}
use Rattle.elab_step_flow.specs.Sets.{Tables, HasBit, AnyOf, ChangesAt}

-- ---- changes

assoc : (xs ys zs : List ℕ) → (xs ++ ys) ++ zs ≡ xs ++ (ys ++ zs)
assoc [] ys zs = refl
assoc (x ∷ xs) ys zs = ap (λ z. x ∷ z) (assoc xs ys zs)

pub changes_more : (P Q R : ℕ → Type 0) (s t u : Tables) → ((i : ℕ) → P i → R i) → ((i : ℕ) → Q i → R i) → ChangesAt P s t → ChangesAt Q t u → ChangesAt R s u
changes_more P Q R s t u f g h k = record {
  unset = λ i n. k.unset i (λ q. n (g i q)) ∙ h.unset i (λ p. n (f i p));
  through = λ i n. k.through i (λ q. n (g i q)) ∙ h.through i (λ p. n (f i p));
  outside = (h.outside.0 ++ k.outside.0, k.outside.1 ∙ (ap (λ z. z ++ k.outside.0) h.outside.1 ∙ assoc s.outside h.outside.0 k.outside.0));
}

pub changes_wider : (P Q : ℕ → Type 0) (s t : Tables) → ((i : ℕ) → P i → Q i) → ChangesAt P s t → ChangesAt Q s t
changes_wider P Q s t f h = record { unset = λ i n. h.unset i (λ p. n (f i p)); through = λ i n. h.through i (λ p. n (f i p)); outside = h.outside }

-- ---- a branch

seam : (xs ys : List ℕ) → take (length xs) (xs ++ ys) ≡ xs
seam [] ys = refl
seam (x ∷ xs) ys = ap (λ z. x ∷ z) (seam xs ys)

rest : (xs ys : List ℕ) → drop (length xs) (xs ++ ys) ≡ ys
rest [] ys = refl
rest (x ∷ xs) ys = rest xs ys

module _ (gs : List Signal) (body : Stmt) (places : List ℕ) (t u : Tables) (is : (i : ℕ) → Among places i ↔ IsAssigned gs body i) (changes : ChangesAt (λ i. IsAssigned gs body i) t u) where
  -- after it the tables are what they were
  pub put_is : (before : List Spot) (back : Tables) (n : ℕ) (now : List ℕ) → SpotsAdded places t [] before → PutTo before u back → n ≡ length t.outside → now ≡ take n u.outside →
      ◌≡◌ {A = Tables} (record { unset = back.unset; through = back.through; outside = now }) t
  put_is before back n now spots put e cut = λ r. record { unset = λ i. (at i).0 r; through = λ i. (at i).1 r; outside = reads r }
    where
      at : (i : ℕ) → (back.unset i ≡ t.unset i) × (back.through i ≡ t.through i)
      at i = elim (put i) [
        | inl f ↦ elim (spots.only f.0 f.1) [ inl g ↦ absurd g | inr g ↦ (f.3 ∙ (g.0.word ∙ ap t.unset f.2), f.4 ∙ (g.0.row ∙ ap t.through f.2)) ]
        | inr f ↦ (
            let never = λ (a : IsAssigned gs body i). let r = spots.there i ((is i).1 a) in f.0 (r.0, r.1, r.2) in
            (f.1 ∙ changes.unset i never, f.2 ∙ changes.through i never)
            )
      ]

      reads : now ≡ t.outside
      reads = cut ∙ ((λ r. take (e r) (changes.outside.1 r)) ∙ seam t.outside changes.outside.0)

  -- and it is one more
  pub branched : (old new : Branches) (n : ℕ) → SpotsAdded places u old.spots.items new.spots.items → ((i : ℕ) → Among new.common.items i ↔ (Among old.common.items i × Among places i)) → n ≡ length t.outside →
      new.outside.items ≡ old.outside.items ++ drop n u.outside → BranchTo gs body t u old new
  branched old new n spots common e outside = record {
    changes = changes;
    unset = λ i b. (
      λ h. elim (spots.only h.0 h.1) [ inl f ↦ inl (h.0, f, h.2, h.3) | inr f ↦ inr ((is i).0 (subst (λ k. Among places k) h.2 f.1), ap (λ m. bit_at m b) (sym (f.0.word ∙ ap u.unset h.2)) ∙ h.3) ],
      λ h. elim h [
        | inl f ↦ (f.0, spots.kept f.0 f.1, f.2, f.3)
        | inr f ↦ (let r = spots.there i ((is i).1 f.0) in (r.0, r.1, r.2, ap (λ m. bit_at m b) (r.3.word ∙ ap u.unset r.2) ∙ f.1))
      ],
    );
    through = λ i j. (
      λ h. elim (spots.only h.0 h.1) [ inl f ↦ inl (h.0, f, h.2, h.3) | inr f ↦ inr ((is i).0 (subst (λ k. Among places k) h.2 f.1), subst (λ z. Among z j) (f.0.row ∙ ap u.through h.2) h.3) ],
      λ h. elim h [
        | inl f ↦ (f.0, spots.kept f.0 f.1, f.2, f.3)
        | inr f ↦ (let r = spots.there i ((is i).1 f.0) in (r.0, r.1, r.2, subst (λ z. Among z j) (sym (r.3.row ∙ ap u.through r.2)) f.1))
      ],
    );
    spotted = λ i h. elim (spots.only h.0 h.1) [ inl f ↦ inl (h.0, f, h.2) | inr f ↦ inr ((is i).0 (subst (λ k. Among places k) h.2 f.1)) ];
    common = λ i. (λ h. let r = (common i).0 h in (r.0, (is i).0 r.1), λ h. (common i).1 (h.0, (is i).1 h.1));
    outside = (changes.outside.0, changes.outside.1, outside ∙ ap (λ z. old.outside.items ++ z) ((λ r. drop (e r) (changes.outside.1 r)) ∙ rest t.outside changes.outside.0));
  }

-- ---- branches, one after another

module _ (gs : List Signal) where
  -- a place is among some or not
  in_or_not : (xs : List ℕ) (i : ℕ) → Among xs i ⊎ (Among xs i → ⊥)
  in_or_not [] i = inr (λ h. h)
  in_or_not (x ∷ xs) i = elim (cases_eq x i) [
    | inl e ↦ inl (inl e)
    | inr n ↦ elim (in_or_not xs i) [ inl f ↦ inl (inr f) | inr f ↦ inr (λ h. elim h [ inl g ↦ n g | inr g ↦ f g ]) ]
  ]

  assigned_or_not : (a : Stmt) (i : ℕ) → IsAssigned gs a i ⊎ (IsAssigned gs a i → ⊥)
  assigned_or_not a i = in_or_not (part_places (map signal_name gs) (assigned_in a)) i

  -- all statements assign a place, or some statement doesn't
  all_or_spares : (bodies : List Stmt) (i : ℕ) → ((a : Stmt) → Among bodies a → IsAssigned gs a i) ⊎ Spares gs bodies i
  all_or_spares [] i = inl (λ a m. absurd m)
  all_or_spares (a ∷ bodies) i = elim (assigned_or_not a i) [
    | inl f ↦ elim (all_or_spares bodies i) [ inl g ↦ inl (λ b m. elim m [ inl e ↦ subst (λ z. IsAssigned gs z i) e f | inr k ↦ g b k ]) | inr g ↦ inr (g.0, inr g.1, g.2) ]
    | inr f ↦ inr (a, inl refl, f)
  ]

  pub gathered_none : (t : Tables) (start : List ℕ) (x : Branches) → x.spots.items ≡ [] → x.common.items ≡ start → x.outside.items ≡ [] → Gathered gs [] t [] start x
  gathered_none t start x e f g = record {
    unset = λ i b. (λ h. absurd h.1, λ h. elim h [ inl k ↦ absurd k.0.1 | inr k ↦ absurd (subst (λ z. Among z k.0) e k.1) ]);
    through = λ i j. (λ h. absurd h.1, λ h. elim h [ inl k ↦ absurd k.0.1 | inr k ↦ absurd (subst (λ z. Among z k.0) e k.1) ]);
    outside = λ i. (λ h. absurd h.1, λ h. elim h [ inl k ↦ absurd k.0.1 | inr k ↦ absurd (subst (λ z. Among z i) g k) ]);
    common = λ i. (λ h. (subst (λ z. Among z i) f h, λ a m. absurd m), λ h. subst (λ z. Among z i) (sym f) h.0);
    spotted = λ i h. absurd (subst (λ z. Among z h.0) e h.1);
  }

  last_of : (us : List Tables) (u : Tables) (P : Tables → Type 0) → AnyOf (us ++ u ∷ []) P ↔ (AnyOf us P ⊎ P u)
  last_of us u P = (
    λ h. elim (among_append us (u ∷ []) h.0 h.1) [ inl f ↦ inl (h.0, f, h.2) | inr f ↦ elim f [ inl e ↦ inr (subst P (sym e) h.2) | inr e ↦ absurd e ] ],
    λ h. elim h [ inl f ↦ (f.0, append_left us (u ∷ []) f.0 f.1, f.2) | inr f ↦ (u, append_right us (u ∷ []) u (inl refl), f) ],
  )

  spares_more : (bodies : List Stmt) (a : Stmt) (i : ℕ) → Spares gs (bodies ++ a ∷ []) i ↔ (Spares gs bodies i ⊎ (IsAssigned gs a i → ⊥))
  spares_more bodies a i = (
    λ h. elim (among_append bodies (a ∷ []) h.0 h.1) [ inl f ↦ inl (h.0, f, h.2) | inr f ↦ elim f [ inl e ↦ inr (subst (λ z. IsAssigned gs z i → ⊥) (sym e) h.2) | inr e ↦ absurd e ] ],
    λ h. elim h [ inl f ↦ (f.0, append_left bodies (a ∷ []) f.0 f.1, f.2) | inr f ↦ (a, append_right bodies (a ∷ []) a (inl refl), f) ],
  )

  module _ (bodies : List Stmt) (a : Stmt) (t u : Tables) (us : List Tables) (start : List ℕ) (old new : Branches) (h : Gathered gs bodies t us start old) (k : BranchTo gs a t u old new) where
    -- of what holds of a place after the last branch, part stands in its spots, and part where it spares the place
    one_more : (i : ℕ) (P : Tables → Type 0) (A B : Type 0) → (AnyOf us P ↔ ((Spares gs bodies i × P t) ⊎ A)) → (B ↔ (A ⊎ (IsAssigned gs a i × P u))) → ((IsAssigned gs a i → ⊥) → P u ↔ P t) →
        AnyOf (us ++ u ∷ []) P ↔ ((Spares gs (bodies ++ a ∷ []) i × P t) ⊎ B)
    one_more i P A B f g same = (
      λ q. elim ((last_of us u P).0 q) [
        | inl e ↦ elim (f.0 e) [ inl z ↦ inl ((spares_more bodies a i).1 (inl z.0), z.1) | inr z ↦ inr (g.1 (inl z)) ]
        | inr e ↦ elim (assigned_or_not a i) [ inl z ↦ inr (g.1 (inr (z, e))) | inr z ↦ inl ((spares_more bodies a i).1 (inr z), (same z).0 e) ]
      ],
      λ q. (last_of us u P).1 (elim q [
        | inl e ↦ elim ((spares_more bodies a i).0 e.0) [ inl z ↦ inl (f.1 (inl (z, e.1))) | inr z ↦ inr ((same z).1 e.1) ]
        | inr e ↦ elim (g.0 e) [ inl z ↦ inl (f.1 (inr z)) | inr z ↦ inr z.1 ]
      ]),
    )

    pub gathered_next : Gathered gs (bodies ++ a ∷ []) t (us ++ u ∷ []) start new
    gathered_next = record {
      unset = λ i b. one_more i (λ z. HasBit z.unset i b) (SpotBit old.spots.items i b) (SpotBit new.spots.items i b) (h.unset i b) (k.unset i b)
          (λ n. (λ q. ap (λ m. bit_at m b) (sym (k.changes.unset i n)) ∙ q, λ q. ap (λ m. bit_at m b) (k.changes.unset i n) ∙ q));
      through = λ i j. one_more i (λ z. Among (z.through i) j) (SpotHas old.spots.items i j) (SpotHas new.spots.items i j) (h.through i j) (k.through i j)
          (λ n. (λ q. subst (λ z. Among z j) (k.changes.through i n) q, λ q. subst (λ z. Among z j) (sym (k.changes.through i n)) q));
      outside = λ i. (
        λ q. elim ((last_of us u (λ z. Among z.outside i)).0 q) [
          | inl e ↦ elim ((h.outside i).0 e) [ inl f ↦ inl ((f.0.0, append_left bodies (a ∷ []) f.0.0 f.0.1), f.1) | inr f ↦ inr (seen i (inl f)) ]
          | inr e ↦ elim (among_append t.outside k.outside.0 i (subst (λ z. Among z i) k.outside.1 e)) [ inl f ↦ inl ((a, append_right bodies (a ∷ []) a (inl refl)), f) | inr f ↦ inr (seen i (inr f)) ]
        ],
        λ q. (last_of us u (λ z. Among z.outside i)).1 (elim q [
          | inl e ↦ inr (subst (λ z. Among z i) (sym k.outside.1) (append_left t.outside k.outside.0 i e.1))
          | inr e ↦ elim (among_append old.outside.items k.outside.0 i (subst (λ z. Among z i) k.outside.2 e)) [
            | inl f ↦ inl ((h.outside i).1 (inr f))
            | inr f ↦ inr (subst (λ z. Among z i) (sym k.outside.1) (append_right t.outside k.outside.0 i f))
          ]
        ]),
      );
      common = λ i. (
        λ q. let r = (k.common i).0 q in let s = (h.common i).0 r.0 in (s.0, λ b m. elim (among_append bodies (a ∷ []) b m) [ inl f ↦ s.1 b f | inr f ↦ elim f [ inl e ↦ subst (λ z. IsAssigned gs z i) e r.1 | inr e ↦ absurd e ] ]),
        λ q. (k.common i).1 ((h.common i).1 (q.0, λ b m. q.1 b (append_left bodies (a ∷ []) b m)), q.1 a (append_right bodies (a ∷ []) a (inl refl))),
      );
      spotted = λ i q. elim (k.spotted i q) [ inl f ↦ (let r = h.spotted i f in (r.0, append_left bodies (a ∷ []) r.0 r.1, r.2)) | inr f ↦ (a, append_right bodies (a ∷ []) a (inl refl), f) ];
    }
      where
        seen : (i : ℕ) → Among old.outside.items i ⊎ Among k.outside.0 i → Among new.outside.items i
        seen i q = subst (λ z. Among z i) (sym k.outside.2) (elim q [ inl f ↦ append_left old.outside.items k.outside.0 i f | inr f ↦ append_right old.outside.items k.outside.0 i f ])

  -- ---- where they end

  module _ (bodies : List Stmt) (t w : Tables) (us : List Tables) (start : List ℕ) (x : Branches) (h : Gathered gs bodies t us start x) (e : EndTo x t w) where
    -- a path leads past them
    module _ (free : (i : ℕ) → Among start i → ⊥) where
      apart : (i : ℕ) → Among x.common.items i → ⊥
      apart i m = free i ((h.common i).0 m).0

      with_past : (i : ℕ) (P : Tables → Type 0) (A : Type 0) → (AnyOf us P ↔ ((Spares gs bodies i × P t) ⊎ A)) → P w ↔ (((Among x.common.items i → ⊥) × P t) ⊎ A) → P w ↔ AnyOf (us ++ t ∷ []) P
      with_past i P A f g = (
        λ q. (last_of us t P).1 (elim (g.0 q) [ inl z ↦ inr z.1 | inr z ↦ inl (f.1 (inr z)) ]),
        λ q. g.1 (elim ((last_of us t P).0 q) [ inl z ↦ elim (f.0 z) [ inl y ↦ inl (apart i, y.1) | inr y ↦ inr y ] | inr z ↦ inl (apart i, z) ]),
      )

      pub past_met : MeetTo (us ++ t ∷ []) w
      past_met = record {
        unset = λ i b. with_past i (λ z. HasBit z.unset i b) (SpotBit x.spots.items i b) (h.unset i b) (e.unset i b);
        through = λ i j. with_past i (λ z. Among (z.through i) j) (SpotHas x.spots.items i j) (h.through i j) (e.through i j);
        outside = λ i. (
          λ q. (last_of us t (λ z. Among z.outside i)).1 (elim (among_append t.outside x.outside.items i (subst (λ z. Among z i) e.outside q)) [ inl f ↦ inr f | inr f ↦ inl ((h.outside i).1 (inr f)) ]),
          λ q. subst (λ z. Among z i) (sym e.outside) (elim ((last_of us t (λ z. Among z.outside i)).0 q) [
            | inl f ↦ elim ((h.outside i).0 f) [ inl g ↦ append_left t.outside x.outside.items i g.1 | inr g ↦ append_right t.outside x.outside.items i g ]
            | inr f ↦ append_left t.outside x.outside.items i f
          ]),
        );
      }

    -- no path does
    module _ (some : (a : Stmt) × Among bodies a) (all : (i : ℕ) → ((a : Stmt) → Among bodies a → IsAssigned gs a i) → Among start i) where
      spared : (i : ℕ) → (Among x.common.items i → ⊥) → Spares gs bodies i
      spared i n = elim (all_or_spares bodies i) [ inl f ↦ absurd (n ((h.common i).1 (all i f, f))) | inr f ↦ f ]

      kept : (i : ℕ) → Spares gs bodies i → Among x.common.items i → ⊥
      kept i s m = s.2 (((h.common i).0 m).1 s.0 s.1)

      without_past : (i : ℕ) (P : Tables → Type 0) (A : Type 0) → (AnyOf us P ↔ ((Spares gs bodies i × P t) ⊎ A)) → P w ↔ (((Among x.common.items i → ⊥) × P t) ⊎ A) → P w ↔ AnyOf us P
      without_past i P A f g = (
        λ q. f.1 (elim (g.0 q) [ inl z ↦ inl (spared i z.0, z.1) | inr z ↦ inr z ]),
        λ q. g.1 (elim (f.0 q) [ inl z ↦ inl (kept i z.0, z.1) | inr z ↦ inr z ]),
      )

      pub all_met : MeetTo us w
      all_met = record {
        unset = λ i b. without_past i (λ z. HasBit z.unset i b) (SpotBit x.spots.items i b) (h.unset i b) (e.unset i b);
        through = λ i j. without_past i (λ z. Among (z.through i) j) (SpotHas x.spots.items i j) (h.through i j) (e.through i j);
        outside = λ i. (
          λ q. (h.outside i).1 (elim (among_append t.outside x.outside.items i (subst (λ z. Among z i) e.outside q)) [ inl f ↦ inl (some, f) | inr f ↦ inr f ]),
          λ q. subst (λ z. Among z i) (sym e.outside) (elim ((h.outside i).0 q) [ inl f ↦ append_left t.outside x.outside.items i f.1 | inr f ↦ append_right t.outside x.outside.items i f ]),
        );
      }

    -- what they change
    pub ended_changes : (P : ℕ → Type 0) → ((i : ℕ) → Among start i → P i) → ((a : Stmt) → Among bodies a → (i : ℕ) → IsAssigned gs a i → P i) → ChangesAt P t w
    ended_changes P f g = record {
      unset = λ i n. (still i n).0;
      through = λ i n. (still i n).1;
      outside = (x.outside.items, e.outside);
    }
      where
        still : (i : ℕ) → (P i → ⊥) → (w.unset i ≡ t.unset i) × (w.through i ≡ t.through i)
        still i n = e.same i (λ m. n (f i ((h.common i).0 m).0)) (λ m. let r = h.spotted i m in n (g r.0 r.1 i r.2))

-- cleared and then added to, by copies of the places and the spots
pub ends : (x : Branches) (s t u : Tables) (places : List ℕ) (spots : List Spot) (outside : List ℕ) → places ≡ x.common.items → spots ≡ x.spots.items → BlankTo places s t → AddTo spots t u → outside ≡ s.outside ++ x.outside.items →
    EndTo x s (record { unset = u.unset; through = u.through; outside = outside })
ends x s t u places spots outside e f h' k' put = record {
  unset = λ i b. (
    λ q. elim ((k.unset i b).0 q) [ inl f ↦ inl ((h.unset i b).0 f) | inr f ↦ inr f ],
    λ q. (k.unset i b).1 (elim q [ inl f ↦ inl ((h.unset i b).1 f) | inr f ↦ inr f ]),
  );
  through = λ i j. (
    λ q. elim ((k.through i j).0 q) [ inl f ↦ inl ((h.through i j).0 f) | inr f ↦ inr f ],
    λ q. (k.through i j).1 (elim q [ inl f ↦ inl ((h.through i j).1 f) | inr f ↦ inr f ]),
  );
  same = λ i n m. let a = h.same i n in let b = k.same i m in (b.0 ∙ a.0, b.1 ∙ a.1);
  outside = put;
}
  where
    h : BlankTo x.common.items s t
    h = subst (λ (z : List ℕ). BlankTo z s t) e h'

    k : AddTo x.spots.items t u
    k = subst (λ z. AddTo z t u) f k'
