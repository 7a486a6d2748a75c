-- What stands at places of tables, put back, cleared and added, one place after another.
use Rattle.std.proofs.Common.{◌≡◌, ℕ, ◌+◌, ◌<◌, ◌≤◌, ◌⊎◌, ◌↔◌, inl, inr, List, [], ◌∷◌, ◌++◌, take, length, get_or, set, get_or-set_same, get_or-set_other, refl, sym, ap, ◌∙◌, subst}
use Rattle.std.specs.Prelude.{bit_or}
use Rattle.std.specs.Int.{bit_at}
use Rattle.std.proofs.lemmas.Bool.{cases_eq}
use Rattle.std.proofs.lemmas.List.{take_more, take_all}
use Rattle.vlog_tree_runs.specs.Places.{Among}
use Rattle.elab_flat_laws.proofs.Lists.{among_append, append_left, append_right}
use Rattle.elab_flat_graphs.specs.Graphs.{graph_of, successors}
use Rattle.elab_step_flow.specs.Branches.{IsSpotOf, IsSpotted, SpotBit, SpotHas, SpotsAdded, PutTo, BlankTo, AddTo}
use Rattle.elab_step_flow.specs.declared.branches.Spot.{Spot}
use Rattle.elab_step_flow.specs.Sets.{Tables}
use Rattle.elab_step_flow.proofs.Bits.{or_bits, none_set}
use Rattle.elab_step_flow.proofs.Choosing.{any_default}
use Rattle.elab_step_flow.proofs.Edging.{Row, put_here, put_apart, row_there}
use Rattle.elab_step_flow.proofs.Listing.{take_next}

apart : (i j : ℕ) → (i ≡ j → ⊥) → j ≡ i → ⊥
apart i j n e = n (sym e)

-- tables of words and rows
abbrev pub of_lists : List ℕ → List Row → List ℕ → Tables
of_lists words rows outside = record { unset = λ i. get_or words i 0; through = λ i. successors (graph_of rows) i; outside = outside }

-- a word and a row by copies of them
pub word_copied : (words : List ℕ) (place word d : ℕ) → place < length words → word ≡ get_or words place d → word ≡ get_or words place 0
word_copied words place word d lt is = is ∙ any_default words place d 0 lt

pub row_copied : (rows : List Row) (place : ℕ) (row d : Row) → place < length rows → row ≡ get_or rows place d → row.items ≡ successors (graph_of rows) place
row_copied rows place row d lt is = ap (λ (z : Row). z.items) is ∙ sym (row_there rows place d lt)

-- ---- what stands at places

module _ (s : Tables) where
  pub spots_none : (old : List Spot) → SpotsAdded [] s old old
  spots_none old = record { kept = λ x m. m; only = λ x m. inl m; there = λ i m. absurd m }

  pub spots_more : (xs ys : List ℕ) (old mid new : List Spot) → SpotsAdded xs s old mid → SpotsAdded ys s mid new → SpotsAdded (xs ++ ys) s old new
  spots_more xs ys old mid new h k = record {
    kept = λ x m. k.kept x (h.kept x m);
    only = λ x m. elim (k.only x m) [
      | inl f ↦ elim (h.only x f) [ inl g ↦ inl g | inr g ↦ inr (g.0, append_left xs ys x.place g.1) ]
      | inr f ↦ inr (f.0, append_right xs ys x.place f.1)
    ];
    there = λ i m. elim (among_append xs ys i m) [ inl f ↦ (let r = h.there i f in (r.0, k.kept r.0 r.1, r.2, r.3)) | inr f ↦ k.there i f ];
  }

  pub spots_one : (old new : List Spot) (x : Spot) (place : ℕ) → new ≡ old ++ x ∷ [] → x.place ≡ place → IsSpotOf s x → SpotsAdded (place ∷ []) s old new
  spots_one old new x place put e is = record {
    kept = λ y m. subst (λ z. Among z y) (sym put) (append_left old (x ∷ []) y m);
    only = λ y m. elim (among_append old (x ∷ []) y (subst (λ z. Among z y) put m)) [
      | inl f ↦ inl f
      | inr f ↦ elim f [ inl g ↦ inr (subst (IsSpotOf s) g is, inl (sym e ∙ ap (λ (z : Spot). z.place) g)) | inr g ↦ absurd g ]
    ];
    there = λ i m. elim m [ inl f ↦ (x, subst (λ z. Among z x) (sym put) (append_right old (x ∷ []) x (inl refl)), e ∙ f, is) | inr f ↦ absurd f ];
  }

-- ---- what is put back

pub put_none : (s : Tables) → PutTo [] s s
put_none s i = inr (λ h. h.1, refl, refl)

pub put_more : (xs ys : List Spot) (s t u : Tables) → PutTo xs s t → PutTo ys t u → PutTo (xs ++ ys) s u
put_more xs ys s t u h k i = elim (k i) [
  | inl f ↦ inl (f.0, append_right xs ys f.0 f.1, f.2, f.3, f.4)
  | inr f ↦ elim (h i) [
    | inl g ↦ inl (g.0, append_left xs ys g.0 g.1, g.2, f.1 ∙ g.3, f.2 ∙ g.4)
    | inr g ↦ inr (λ a. elim (among_append xs ys a.0 a.1) [ inl b ↦ g.0 (a.0, b, a.2) | inr b ↦ f.0 (a.0, b, a.2) ], f.1 ∙ g.1, f.2 ∙ g.2)
  ]
]

pub put_one : (x : Spot) (words : List ℕ) (rows : List Row) (row : Row) (outside : List ℕ) → x.place < length words → x.place < length rows → row.items ≡ x.row.items →
    PutTo (x ∷ []) (of_lists words rows outside) (of_lists (set words x.place x.word) (set rows x.place row) outside)
put_one x words rows row outside lt lines is i = elim (cases_eq x.place i) [
  | inl e ↦ inl (
    x,
    inl refl,
    e,
    subst (λ k. get_or (set words x.place x.word) k 0 ≡ x.word) e (get_or-set_same words x.place x.word 0 lt),
    subst (λ k. successors (graph_of (set rows x.place row)) k ≡ x.row.items) e (put_here rows x.place row lines ∙ is),
  )
  | inr n ↦ inr (none n, get_or-set_other words x.place i x.word 0 (apart x.place i n), put_apart rows x.place i row n)
]
  where
    none : (x.place ≡ i → ⊥) → IsSpotted (x ∷ []) i → ⊥
    none n (y, inl f, e) = n (ap (λ (z : Spot). z.place) f ∙ e)
    none n (y, inr f, e) = f

-- ---- what is cleared

pub blank_none : (s : Tables) → BlankTo [] s s
blank_none s = record { unset = λ i b. (λ h. (λ m. m, h), λ h. h.1); through = λ i j. (λ h. (λ m. m, h), λ h. h.1); same = λ i h. (refl, refl) }

pub blank_more : (xs ys : List ℕ) (s t u : Tables) → BlankTo xs s t → BlankTo ys t u → BlankTo (xs ++ ys) s u
blank_more xs ys s t u h k = record {
  unset = λ i b. (
    λ f. let g = (k.unset i b).0 f in let e = (h.unset i b).0 g.1 in (either_way i e.0 g.0, e.1),
    λ f. (k.unset i b).1 (λ m. f.0 (append_right xs ys i m), (h.unset i b).1 (λ m. f.0 (append_left xs ys i m), f.1)),
  );
  through = λ i j. (
    λ f. let g = (k.through i j).0 f in let e = (h.through i j).0 g.1 in (either_way i e.0 g.0, e.1),
    λ f. (k.through i j).1 (λ m. f.0 (append_right xs ys i m), (h.through i j).1 (λ m. f.0 (append_left xs ys i m), f.1)),
  );
  same = λ i none.
      let a = h.same i (λ m. none (append_left xs ys i m)) in
      let b = k.same i (λ m. none (append_right xs ys i m)) in
      (b.0 ∙ a.0, b.1 ∙ a.1);
}
  where
    either_way : (i : ℕ) → (Among xs i → ⊥) → (Among ys i → ⊥) → Among (xs ++ ys) i → ⊥
    either_way i f g m = elim (among_append xs ys i m) [ inl a ↦ f a | inr a ↦ g a ]

pub blank_one : (place : ℕ) (words : List ℕ) (rows : List Row) (row : Row) (outside : List ℕ) → place < length words → place < length rows → row.items ≡ [] →
    BlankTo (place ∷ []) (of_lists words rows outside) (of_lists (set words place 0) (set rows place row) outside)
blank_one place words rows row outside lt lines is = record {
  unset = λ i b. elim (cases_eq place i) [
    | inl e ↦ (λ h. absurd (none_set b (ap (λ m. bit_at m b) (sym (here i e)) ∙ h)), λ h. absurd (h.0 (inl e)))
    | inr n ↦ (λ h. (never i n, ap (λ m. bit_at m b) (sym (other i n)) ∙ h), λ h. ap (λ m. bit_at m b) (other i n) ∙ h.1)
  ];
  through = λ i j. elim (cases_eq place i) [
    | inl e ↦ (λ h. absurd (subst (λ z. Among z j) (here_row i e) h), λ h. absurd (h.0 (inl e)))
    | inr n ↦ (λ h. (never i n, subst (λ z. Among z j) (put_apart rows place i row n) h), λ h. subst (λ z. Among z j) (sym (put_apart rows place i row n)) h.1)
  ];
  same = λ i none. (other i (λ e. none (inl e)), put_apart rows place i row (λ e. none (inl e)));
}
  where
    here : (i : ℕ) → place ≡ i → get_or (set words place 0) i 0 ≡ 0
    here i e = subst (λ k. get_or (set words place 0) k 0 ≡ 0) e (get_or-set_same words place 0 0 lt)

    other : (i : ℕ) → (place ≡ i → ⊥) → get_or (set words place 0) i 0 ≡ get_or words i 0
    other i n = get_or-set_other words place i 0 0 (apart place i n)

    here_row : (i : ℕ) → place ≡ i → successors (graph_of (set rows place row)) i ≡ []
    here_row i e = subst (λ k. successors (graph_of (set rows place row)) k ≡ []) e (put_here rows place row lines ∙ is)

    never : (i : ℕ) → (place ≡ i → ⊥) → Among (place ∷ []) i → ⊥
    never i n (inl e) = n e
    never i n (inr e) = e

-- ---- what is added

pub add_none : (s : Tables) → AddTo [] s s
add_none s = record {
  unset = λ i b. (λ h. inl h, λ h. elim h [ inl f ↦ f | inr f ↦ absurd f.1 ]);
  through = λ i j. (λ h. inl h, λ h. elim h [ inl f ↦ f | inr f ↦ absurd f.1 ]);
  same = λ i h. (refl, refl);
}

pub add_more : (xs ys : List Spot) (s t u : Tables) → AddTo xs s t → AddTo ys t u → AddTo (xs ++ ys) s u
add_more xs ys s t u h k = record {
  unset = λ i b. (
    λ f. elim ((k.unset i b).0 f) [ inl g ↦ elim ((h.unset i b).0 g) [ inl e ↦ inl e | inr e ↦ inr (e.0, append_left xs ys e.0 e.1, e.2, e.3) ] | inr g ↦ inr (g.0, append_right xs ys g.0 g.1, g.2, g.3) ],
    λ f. (k.unset i b).1 (elim f [
      | inl g ↦ inl ((h.unset i b).1 (inl g))
      | inr g ↦ elim (among_append xs ys g.0 g.1) [ inl e ↦ inl ((h.unset i b).1 (inr (g.0, e, g.2, g.3))) | inr e ↦ inr (g.0, e, g.2, g.3) ]
    ]),
  );
  through = λ i j. (
    λ f. elim ((k.through i j).0 f) [ inl g ↦ elim ((h.through i j).0 g) [ inl e ↦ inl e | inr e ↦ inr (e.0, append_left xs ys e.0 e.1, e.2, e.3) ] | inr g ↦ inr (g.0, append_right xs ys g.0 g.1, g.2, g.3) ],
    λ f. (k.through i j).1 (elim f [
      | inl g ↦ inl ((h.through i j).1 (inl g))
      | inr g ↦ elim (among_append xs ys g.0 g.1) [ inl e ↦ inl ((h.through i j).1 (inr (g.0, e, g.2, g.3))) | inr e ↦ inr (g.0, e, g.2, g.3) ]
    ]),
  );
  same = λ i none.
      let a = h.same i (λ m. none (m.0, append_left xs ys m.0 m.1, m.2)) in
      let b = k.same i (λ m. none (m.0, append_right xs ys m.0 m.1, m.2)) in
      (b.0 ∙ a.0, b.1 ∙ a.1);
}

pub add_one : (x : Spot) (words : List ℕ) (rows : List Row) (row : Row) (outside : List ℕ) → x.place < length words → x.place < length rows →
    ((j : ℕ) → Among row.items j ↔ (Among (successors (graph_of rows) x.place) j ⊎ Among x.row.items j)) →
    AddTo (x ∷ []) (of_lists words rows outside) (of_lists (set words x.place (bit_or (get_or words x.place 0) x.word)) (set rows x.place row) outside)
add_one x words rows row outside lt lines put = record {
  unset = λ i b. elim (cases_eq x.place i) [
    | inl e ↦ subst (λ k. (bit_at (get_or (set words x.place (bit_or (get_or words x.place 0) x.word)) k 0) b ≡ 1) ↔ ((bit_at (get_or words k 0) b ≡ 1) ⊎ SpotBit (x ∷ []) k b)) e (here b)
    | inr n ↦ (λ h. inl (ap (λ m. bit_at m b) (sym (other i n)) ∙ h), λ h. elim h [ inl f ↦ ap (λ m. bit_at m b) (other i n) ∙ f | inr f ↦ absurd (none i n (f.0, f.1, f.2)) ])
  ];
  through = λ i j. elim (cases_eq x.place i) [
    | inl e ↦ subst (λ k. Among (successors (graph_of (set rows x.place row)) k) j ↔ (Among (successors (graph_of rows) k) j ⊎ SpotHas (x ∷ []) k j)) e (line j)
    | inr n ↦ (
      λ h. inl (subst (λ z. Among z j) (put_apart rows x.place i row n) h),
      λ h. elim h [ inl f ↦ subst (λ z. Among z j) (sym (put_apart rows x.place i row n)) f | inr f ↦ absurd (none i n (f.0, f.1, f.2)) ],
    )
  ];
  same = λ i h. let n = λ (e : x.place ≡ i). h (x, inl refl, e) in (other i n, put_apart rows x.place i row n);
}
  where
    other : (i : ℕ) → (x.place ≡ i → ⊥) → get_or (set words x.place (bit_or (get_or words x.place 0) x.word)) i 0 ≡ get_or words i 0
    other i n = get_or-set_other words x.place i (bit_or (get_or words x.place 0) x.word) 0 (apart x.place i n)

    none : (i : ℕ) → (x.place ≡ i → ⊥) → IsSpotted (x ∷ []) i → ⊥
    none i n (y, inl f, e) = n (ap (λ (z : Spot). z.place) f ∙ e)
    none i n (y, inr f, e) = f

    here : (b : ℕ) → (bit_at (get_or (set words x.place (bit_or (get_or words x.place 0) x.word)) x.place 0) b ≡ 1) ↔ ((bit_at (get_or words x.place 0) b ≡ 1) ⊎ SpotBit (x ∷ []) x.place b)
    here b =
        let same : get_or (set words x.place (bit_or (get_or words x.place 0) x.word)) x.place 0 ≡ (bit_or (get_or words x.place 0) x.word) = get_or-set_same words x.place (bit_or (get_or words x.place 0) x.word) 0 lt in
        let r = or_bits (get_or words x.place 0) x.word b in (
          λ h. elim (r.0 (ap (λ m. bit_at m b) (sym same) ∙ h)) [ inl f ↦ inl f | inr f ↦ inr (x, inl refl, refl, f) ],
          λ h. ap (λ m. bit_at m b) same ∙ r.1 (elim h [ inl f ↦ inl f | inr f ↦ inr (bit f) ]),
        )
      where
        bit : SpotBit (x ∷ []) x.place b → bit_at x.word b ≡ 1
        bit (y, inl e, f, h) = subst (λ (z : Spot). bit_at z.word b ≡ 1) (sym e) h
        bit (y, inr e, f, h) = absurd e

    line : (j : ℕ) → Among (successors (graph_of (set rows x.place row)) x.place) j ↔ (Among (successors (graph_of rows) x.place) j ⊎ SpotHas (x ∷ []) x.place j)
    line j = (
      λ h. elim ((put j).0 (subst (λ z. Among z j) (put_here rows x.place row lines) h)) [ inl f ↦ inl f | inr f ↦ inr (x, inl refl, refl, f) ],
      λ h. subst (λ z. Among z j) (sym (put_here rows x.place row lines)) ((put j).1 (elim h [ inl f ↦ inl f | inr f ↦ inr (of f) ])),
    )
      where
        of : SpotHas (x ∷ []) x.place j → Among x.row.items j
        of (y, inl e, f, h) = subst (λ (z : Spot). Among z.row.items j) (sym e) h
        of (y, inr e, f, h) = absurd e

-- ---- one after another

pub put_next : (xs : List Spot) (k : ℕ) (x : Spot) (s t u : Tables) → k < length xs → x ≡ get_or xs k x → PutTo (take k xs) s t → PutTo (x ∷ []) t u → PutTo (take (k + 1) xs) s u
put_next xs k x s t u lt is h g = subst (λ z. PutTo z s u) (take_next xs k x lt is) (put_more (take k xs) (x ∷ []) s t u h g)

pub put_end : (xs : List Spot) (k : ℕ) (s t : Tables) → length xs ≤ k → PutTo (take k xs) s t → PutTo xs s t
put_end xs k s t le h = subst (λ z. PutTo z s t) (take_all k xs le) h

pub add_next : (xs : List Spot) (k : ℕ) (x : Spot) (s t u : Tables) → k < length xs → x ≡ get_or xs k x → AddTo (take k xs) s t → AddTo (x ∷ []) t u → AddTo (take (k + 1) xs) s u
add_next xs k x s t u lt is h g = subst (λ z. AddTo z s u) (take_next xs k x lt is) (add_more (take k xs) (x ∷ []) s t u h g)

pub add_end : (xs : List Spot) (k : ℕ) (s t : Tables) → length xs ≤ k → AddTo (take k xs) s t → AddTo xs s t
add_end xs k s t le h = subst (λ z. AddTo z s t) (take_all k xs le) h

pub blank_next : (xs : List ℕ) (k : ℕ) (s t u : Tables) → k < length xs → BlankTo (take k xs) s t → BlankTo (get_or xs k 0 ∷ []) t u → BlankTo (take (k + 1) xs) s u
blank_next xs k s t u lt h g = subst (λ z. BlankTo z s u) (sym (take_more xs k 0 lt)) (blank_more (take k xs) (get_or xs k 0 ∷ []) s t u h g)

pub blank_end : (xs : List ℕ) (k : ℕ) (s t : Tables) → length xs ≤ k → BlankTo (take k xs) s t → BlankTo xs s t
blank_end xs k s t le h = subst (λ z. BlankTo z s t) (take_all k xs le) h

pub spots_next : (s : Tables) (xs : List ℕ) (k : ℕ) (old mid new : List Spot) (x : Spot) → k < length xs → SpotsAdded (take k xs) s old mid → new ≡ mid ++ x ∷ [] → x.place ≡ get_or xs k 0 → IsSpotOf s x → SpotsAdded (take (k + 1) xs) s old new
spots_next s xs k old mid new x lt h put e is =
    subst (λ z. SpotsAdded z s old new) (sym (take_more xs k 0 lt)) (spots_more s (take k xs) (get_or xs k 0 ∷ []) old mid new h (spots_one s mid new x (get_or xs k 0) put e is))

pub spots_end : (s : Tables) (xs : List ℕ) (k : ℕ) (old new : List Spot) → length xs ≤ k → SpotsAdded (take k xs) s old new → SpotsAdded xs s old new
spots_end s xs k old new le h = subst (λ z. SpotsAdded z s old new) (take_all k xs le) h
