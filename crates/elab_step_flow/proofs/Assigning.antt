-- An assignment, by what its steps do to tables.
use Rattle.std.proofs.Common.{◌≡◌, ℕ, ◌+◌, ◌≤◌, ◌<◌, ◌⊎◌, ◌↔◌, inl, inr, List, [], ◌∷◌, ◌++◌, Some, None, Option, map, length, take, get_or, refl, arith, sym, ap, ◌∙◌, subst}
use Rattle.std.specs.Prelude.{unwrap_or}
use Rattle.std.specs.Int.{bit_at}
use Rattle.std.specs.Option.{option_map, option_to_list}
use Rattle.std.proofs.lemmas.Bool.{cases_eq}
use Rattle.std.proofs.lemmas.List.{map-append, take_all}
use Rattle.vlog_tree.specs.declared.expr.Expr.{Expr}
use Rattle.vlog_tree.specs.declared.stmt.Lval.{Lval}
use Rattle.vlog_tree_runs.specs.declared.flat.Signal.{Signal}
use Rattle.vlog_tree_runs.specs.Places.{Name, Among}
use Rattle.vlog_tree_runs.specs.Blocks.{left_names}
use Rattle.elab_flat_faults.specs.Texts.{numbers_in}
use Rattle.elab_flat_laws.proofs.Lists.{among_append, append_left, append_right, flat_append}
use Rattle.elab_flat_scopes.specs.Finding.{place_in}
use Rattle.elab_flat_faults.specs.Paths.{width_in}
use Rattle.elab_flat_faults.specs.Drivers.{parts_of}
use Rattle.elab_step_laws.specs.Laws.{place_over}
use Rattle.elab_flat_drivers.specs.declared.parts.Part.{Part}
use Rattle.elab_flat_drivers.specs.Parts.{part_meant}
use Rattle.elab_flat_drivers.specs.Claims.{part_name}
use Rattle.elab_flat_drivers.specs.Spots.{signal_name}
use Rattle.elab_step_flow.specs.Assigned.{AnyAt, PartsSet}
use Rattle.elab_step_flow.specs.Edges.{part_place, part_places}
use Rattle.elab_step_flow.specs.Sets.{Tables, HasBit, ChangesAt}
use Rattle.elab_step_flow.specs.Shows.{IsAt, AreDistinct}
use Rattle.elab_step_flow.specs.Words.{AreNarrow, IsShapeAt, IsSetAt, AnySetAt, IsSignalAt, set_word}
use Rattle.elab_step_flow.specs.declared.words.Shape.{Shape}
use Rattle.elab_step_flow.specs.Passes.{ReadsAt, ReadsTo, CountTo, EnterTo, AssignTo}
use Rattle.elab_step_flow.proofs.Listing.{take_next}
use Rattle.elab_step_flow.proofs.Marking.{parts_names}
use Rattle.elab_step_flow.proofs.Placing.{words_set, named_signal, place_name}
use Rattle.elab_step_flow.proofs.Reading.{places_of_names}
use Rattle.elab_step_flow.proofs.Setting.{one_signal}
use Rattle.elab_step_flow.proofs.Showing.{at_lt}
use Rattle.elab_step_flow.proofs.Stating.{placed}

-- ---- the places of parts

module _ (gs : List Signal) where
  pub any_within : (qs : List Lval) (i : ℕ) → AnyAt gs qs i → i < length gs
  any_within qs i h = let r = (placed (map signal_name gs) qs i).0 h in at_lt gs i r.0 (place_name gs r.0 i r.2)

  pub any_more : (xs ys : List Lval) (i : ℕ) → AnyAt gs (xs ++ ys) i ↔ (AnyAt gs xs i ⊎ AnyAt gs ys i)
  any_more xs ys i =
      let names : List Name = map signal_name gs in
      let cut : part_places names (xs ++ ys) ≡ part_places names xs ++ part_places names ys = flat_append (part_place names) xs ys in (
        λ h. among_append (part_places names xs) (part_places names ys) i (subst (λ z. Among z i) cut h),
        λ h. subst (λ z. Among z i) (sym cut) (elim h [ inl f ↦ append_left (part_places names xs) (part_places names ys) i f | inr f ↦ append_right (part_places names xs) (part_places names ys) i f ]),
      )

  set_more : (xs ys : List Lval) (i b : ℕ) → AnySetAt gs (xs ++ ys) i b ↔ (AnySetAt gs xs i b ⊎ AnySetAt gs ys i b)
  set_more xs ys i b = (
    λ h. elim (among_append xs ys h.0 h.1) [ inl f ↦ inl (h.0, f, h.2) | inr f ↦ inr (h.0, f, h.2) ],
    λ h. elim h [ inl f ↦ (f.0, append_left xs ys f.0 f.1, f.2) | inr f ↦ (f.0, append_right xs ys f.0 f.1, f.2) ],
  )

  -- ---- parts, one after another

  module _ (sources : List ℕ) where
    pub none_set : (s : Tables) → PartsSet gs [] sources s s
    none_set s = record {
      unset = λ i b lt. (λ h. (h, λ k. k.1), λ h. h.0);
      clear = λ i b h. h;
      through = λ i j. (λ h. inr h, λ h. elim h [ inl f ↦ absurd f.0 | inr f ↦ f ]);
      same = λ i h. (refl, refl);
      outside = refl;
    }

    pub more_set : (xs ys : List Lval) (s t u : Tables) → PartsSet gs xs sources s t → PartsSet gs ys sources t u → PartsSet gs (xs ++ ys) sources s u
    more_set xs ys s t u h k = record {
      unset = λ i b lt.
          let m = set_more xs ys i b in (
            λ f. let g = (k.unset i b lt).0 f in let e = (h.unset i b lt).0 g.0 in (e.0, λ a. elim (m.0 a) [ inl x ↦ e.1 x | inr y ↦ g.1 y ]),
            λ f. (k.unset i b lt).1 ((h.unset i b lt).1 (f.0, λ a. f.1 (m.1 (inl a))), λ a. f.1 (m.1 (inr a))),
          );
      clear = λ i b f. h.clear i b (k.clear i b f);
      through = λ i j.
          let m = any_more xs ys i in (
            λ f. elim ((k.through i j).0 f) [ inl g ↦ inl (m.1 (inr g.0), g.1) | inr g ↦ elim ((h.through i j).0 g) [ inl e ↦ inl (m.1 (inl e.0), e.1) | inr e ↦ inr e ] ],
            λ f. (k.through i j).1 (elim f [ inl g ↦ elim (m.0 g.0) [ inl e ↦ inr ((h.through i j).1 (inl (e, g.1))) | inr e ↦ inl (e, g.1) ] | inr g ↦ inr ((h.through i j).1 (inr g)) ]),
          );
      same = λ i none.
          let m = any_more xs ys i in
          let a = h.same i (λ f. none (m.1 (inl f))) in
          let b = k.same i (λ f. none (m.1 (inr f))) in
          (b.0 ∙ a.0, b.1 ∙ a.1);
      outside = k.outside ∙ h.outside;
    }

    -- ---- one part

    module _ (q : Lval) where
      one_place : (o : Option ℕ) (i : ℕ) → o ≡ place_in (map signal_name gs) (part_name q) → AnyAt gs (q ∷ []) i ↔ Among (option_to_list o) i
      one_place o i e = (
        λ h. elim (among_append (option_to_list (place_in (map signal_name gs) (part_name q))) [] i h) [ inl f ↦ subst (λ z. Among (option_to_list z) i) (sym e) f | inr f ↦ absurd f ],
        λ h. append_left (option_to_list (place_in (map signal_name gs) (part_name q))) [] i (subst (λ z. Among (option_to_list z) i) e h),
      )

      pub absent_set : (s : Tables) → place_in (map signal_name gs) (part_name q) ≡ None → PartsSet gs (q ∷ []) sources s s
      absent_set s e = record {
        unset = λ i b lt. (λ h. (h, λ k. never i b k), λ h. h.0);
        clear = λ i b h. h;
        through = λ i j. (λ h. inr h, λ h. elim h [ inl f ↦ absurd ((one_place None i (sym e)).0 f.0) | inr f ↦ f ]);
        same = λ i h. (refl, refl);
        outside = refl;
      }
        where
          clash : (i : ℕ) → Some i ≡ None → ⊥
          clash i e = cc

          never : (i b : ℕ) → AnySetAt gs (q ∷ []) i b → ⊥
          never i b (r, inl f, g) = clash i (sym (subst (λ z. place_in (map signal_name gs) (part_name z) ≡ Some i) (sym f) g.1) ∙ e)
          never i b (r, inr f, g) = f

      module _ (place word : ℕ) (shape : Shape) (found : Some place ≡ place_in (map signal_name gs) (part_name q)) (s' : IsShapeAt gs place shape) (is : word ≡ set_word shape.width shape.low q) where
        some_is : (x y : ℕ) → Some x ≡ Some y → x ≡ y
        some_is x y e = cc

        same_word : set_word s'.0.width s'.0.low q ≡ word
        same_word = (λ i. set_word (s'.2 i) (s'.3 i) q) ∙ sym is

        -- the part's bits are those of the word, at its place
        word_is : (i b : ℕ) → AnySetAt gs (q ∷ []) i b ↔ ((place ≡ i) × (bit_at word b ≡ 1))
        word_is i b = (there, back)
          where
            from : IsSetAt gs q i b → (place ≡ i) × (bit_at word b ≡ 1)
            from (g, f, a, h) =
                let e : place ≡ i = some_is place i (found ∙ f) in
                let k : g ≡ s'.0 = one_signal gs i g s'.0 a (subst (λ k. IsSignalAt gs k s'.0) e s'.1) in
                (e, ap (λ m. bit_at m b) (sym (ap (λ (z : Signal). set_word z.width z.low q) k ∙ same_word)) ∙ h)

            there : AnySetAt gs (q ∷ []) i b → (place ≡ i) × (bit_at word b ≡ 1)
            there (r, inl e, h) = from (subst (λ z. IsSetAt gs z i b) (sym e) h)
            there (r, inr e, h) = absurd e

            back : (place ≡ i) × (bit_at word b ≡ 1) → AnySetAt gs (q ∷ []) i b
            back h = (q, inl refl, (s'.0, subst (λ k. place_in (map signal_name gs) (part_name q) ≡ Some k) h.0 (sym found), subst (λ k. IsSignalAt gs k s'.0) h.0 s'.1, ap (λ m. bit_at m b) same_word ∙ h.1))

        place_is : (i : ℕ) → AnyAt gs (q ∷ []) i ↔ (place ≡ i)
        place_is i = (λ h. elim ((one_place (Some place) i found).0 h) [ inl e ↦ e | inr e ↦ absurd e ], λ e. (one_place (Some place) i found).1 (inl e))

        pub part_set : (s t : Tables) → ((b : ℕ) → b < 64 → HasBit t.unset place b ↔ (HasBit s.unset place b × (bit_at word b ≡ 1 → ⊥))) → ((b : ℕ) → HasBit t.unset place b → HasBit s.unset place b) →
            ((j : ℕ) → Among (t.through place) j ↔ (Among (s.through place) j ⊎ Among sources j)) → ((i : ℕ) → (place ≡ i → ⊥) → t.unset i ≡ s.unset i) → ((i : ℕ) → (place ≡ i → ⊥) → t.through i ≡ s.through i) →
            t.outside ≡ s.outside → PartsSet gs (q ∷ []) sources s t
        part_set s t cleared kept row words rows outside = record {
          unset = λ i b lt. elim (cases_eq place i) [
            | inl e ↦ subst (λ k. HasBit t.unset k b ↔ (HasBit s.unset k b × (AnySetAt gs (q ∷ []) k b → ⊥))) e (here b lt)
            | inr n ↦ (λ h. (ap (λ m. bit_at m b) (sym (words i n)) ∙ h, λ a. n ((word_is i b).0 a).0), λ h. ap (λ m. bit_at m b) (words i n) ∙ h.0)
          ];
          clear = λ i b. elim (cases_eq place i) [
            | inl e ↦ subst (λ k. HasBit t.unset k b → HasBit s.unset k b) e (kept b)
            | inr n ↦ (λ h. ap (λ m. bit_at m b) (sym (words i n)) ∙ h)
          ];
          through = λ i j. elim (cases_eq place i) [
            | inl e ↦ subst (λ k. Among (t.through k) j ↔ ((AnyAt gs (q ∷ []) k × Among sources j) ⊎ Among (s.through k) j)) e (line j)
            | inr n ↦ (λ h. inr (subst (λ z. Among z j) (rows i n) h), λ h. elim h [ inl f ↦ absurd (n ((place_is i).0 f.0)) | inr f ↦ subst (λ z. Among z j) (sym (rows i n)) f ])
          ];
          same = λ i none. (words i (λ e. none ((place_is i).1 e)), rows i (λ e. none ((place_is i).1 e)));
          outside = outside;
        }
          where
            here : (b : ℕ) → b < 64 → HasBit t.unset place b ↔ (HasBit s.unset place b × (AnySetAt gs (q ∷ []) place b → ⊥))
            here b lt = (
              λ h. let r = (cleared b lt).0 h in (r.0, λ a. r.1 ((word_is place b).0 a).1),
              λ h. (cleared b lt).1 (h.0, λ k. h.1 ((word_is place b).1 (refl, k))),
            )

            line : (j : ℕ) → Among (t.through place) j ↔ ((AnyAt gs (q ∷ []) place × Among sources j) ⊎ Among (s.through place) j)
            line j = (
              λ h. elim ((row j).0 h) [ inl f ↦ inr f | inr f ↦ inl ((place_is place).1 refl, f) ],
              λ h. (row j).1 (elim h [ inl f ↦ inr f.1 | inr f ↦ inl f ]),
            )

pub parts_next : (gs : List Signal) (sources : List ℕ) (parts : List Part) (k : ℕ) (x : Part) (s t u : Tables) → k < length parts → x ≡ get_or parts k x → PartsSet gs (map part_meant (take k parts)) sources s t →
    PartsSet gs (part_meant x ∷ []) sources t u → PartsSet gs (map part_meant (take (k + 1) parts)) sources s u
parts_next gs sources parts k x s t u lt is h g =
    let e : map part_meant (take k parts) ++ part_meant x ∷ [] ≡ map part_meant (take (k + 1) parts) = sym (map-append part_meant (take k parts) (x ∷ [])) ∙ ap (map part_meant) (take_next parts k x lt is) in
    subst (λ qs. PartsSet gs qs sources s u) e (more_set gs sources (map part_meant (take k parts)) (part_meant x ∷ []) s t u h g)

pub parts_end : (gs : List Signal) (sources : List ℕ) (parts : List Part) (k : ℕ) (s t : Tables) → length parts ≤ k → PartsSet gs (map part_meant (take k parts)) sources s t → PartsSet gs (map part_meant parts) sources s t
parts_end gs sources parts k s t le h = subst (λ z. PartsSet gs (map part_meant z) sources s t) (take_all k parts le) h

-- ---- a whole assignment

module _ (gs : List Signal) (d : AreDistinct gs) where
  short : AreNarrow gs → (i b : ℕ) (x : Name) → IsAt gs i x → b < width_in (place_over gs) x → b < 64
  short narrow i b x a lt =
      let g = named_signal gs d x i a in
      let w : width_in (place_over gs) x ≡ g.0.width = ap (λ o. unwrap_or (option_map (λ (g : Signal). g.width) o) 0) g.2 in
      let le : g.0.width ≤ 64 = narrow g.0 g.1 in
      omega arith

  pub assigned : AreNarrow gs → (around read sources : List ℕ) (left : Lval) (right : Expr) (s t u : Tables) → ReadsAt gs (right ∷ numbers_in left) read → ReadsTo read s t → CountTo around read s sources →
      PartsSet gs (parts_of left) sources t u → AssignTo gs around left right s u
  assigned narrow around read sources left right s t u marks reads counts put = record {
    middle = t;
    sources = sources;
    enters = record { read = read; marks = marks; reads = reads; counts = counts };
    sets = record {
      unset = λ i b x a lt.
          let c = put.unset i b (short narrow i b x a lt) in
          let w = words_set gs d i b x a lt left in
          (λ h. let r = c.0 h in (r.0, λ k. r.1 (w.1 k)), λ h. c.1 (h.0, λ k. h.1 (w.0 k)));
      clear = put.clear;
      through = λ i j y a.
          let n = (places_of_names gs d (parts_of left) (left_names left) (λ x. (λ h. subst (λ z. Among z x) (parts_names left) h, λ h. subst (λ z. Among z x) (sym (parts_names left)) h))).each i y a in
          let c = put.through i j in
          (λ h. elim (c.0 h) [ inl k ↦ inl (n.0 k.0, k.1) | inr k ↦ inr k ], λ h. c.1 (elim h [ inl k ↦ inl (n.1 k.0, k.1) | inr k ↦ inr k ]));
      outside = put.outside;
    };
  }

-- what it changes
pub assignment_changes : (gs : List Signal) (qs : List Lval) (sources more : List ℕ) (s t u : Tables) → t.unset ≡ s.unset → t.through ≡ s.through → t.outside ≡ s.outside ++ more → PartsSet gs qs sources t u → ChangesAt (λ i. AnyAt gs qs i) s u
assignment_changes gs qs sources more s t u e f g put = record {
  unset = λ i none. (put.same i none).0 ∙ (λ r. e r i);
  through = λ i none. (put.same i none).1 ∙ (λ r. f r i);
  outside = (more, put.outside ∙ g);
}

-- where expressions are read
pub entered : (gs : List Signal) (around : List ℕ) (as' : List Expr) (s t : Tables) (found read inner : List ℕ) → read ≡ found → ReadsAt gs as' found → ReadsTo read s t → CountTo around read s inner → EnterTo gs around as' s t inner
entered gs around as' s t found read inner e marks reads counts = record { read = read; marks = subst (λ z. ReadsAt gs as' z) (sym e) marks; reads = reads; counts = counts }

-- reading changes neither words nor rows
pub enter_changes : (read : List ℕ) (s t : Tables) → ReadsTo read s t → ((more : List ℕ) × (t.outside ≡ s.outside ++ more)) → ChangesAt (λ i. ⊥) s t
enter_changes read s t h grows = record { unset = λ i n. (λ r. h.unset r i); through = λ i n. (λ r. h.through r i); outside = grows }
