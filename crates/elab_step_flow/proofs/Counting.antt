-- What places that are read count as, one place after another.
use Rattle.std.proofs.Common.{◌≡◌, ℕ, ◌+◌, ◌<◌, ◌⊎◌, ◌↔◌, inl, inr, true, false, List, [], ◌∷◌, ◌++◌, length, get_or, take, refl, sym, ap, ◌∙◌, subst}
use Rattle.vlog_tree_runs.specs.Places.{Among}
use Rattle.elab_flat_laws.proofs.Lists.{among_append, append_left, append_right}
use Rattle.elab_step_flow.specs.Sets.{Tables, is_open, CountsIn}
use Rattle.std.proofs.lemmas.List.{take_more}

clash : false ≡ true → ⊥
clash e = cc

-- one of some, or of those and more
pub or_more : {A B C D E F : Type 0} → A ↔ (B ⊎ C) → B ↔ (D ⊎ E) → F ↔ (E ⊎ C) → A ↔ (D ⊎ F)
or_more f g h = (
  λ a. elim (f.0 a) [ inl b ↦ elim (g.0 b) [ inl d ↦ inl d | inr e ↦ inr (h.1 (inl e)) ] | inr c ↦ inr (h.1 (inr c)) ],
  λ q. elim q [ inl d ↦ f.1 (inl (g.1 (inl d))) | inr k ↦ elim (h.0 k) [ inl e ↦ f.1 (inl (g.1 (inr e))) | inr c ↦ f.1 (inr c) ] ],
)

module _ (s : Tables) where
  pub counts_none : (z : ℕ) → CountsIn [] s z → ⊥
  counts_none z h = h.1

  pub counts_more : (xs ys : List ℕ) (z : ℕ) → CountsIn (xs ++ ys) s z ↔ (CountsIn xs s z ⊎ CountsIn ys s z)
  counts_more xs ys z = (
    λ h. elim (among_append xs ys h.0 h.1) [ inl f ↦ inl (h.0, f, h.2) | inr f ↦ inr (h.0, f, h.2) ],
    λ h. elim h [ inl f ↦ (f.0, append_left xs ys f.0 f.1, f.2) | inr f ↦ (f.0, append_right xs ys f.0 f.1, f.2) ],
  )

  module _ (place : ℕ) (old mid row : List ℕ) (is : row ≡ s.through place) (put : mid ≡ old ++ row) where
    -- a place is read where it isn't all set
    pub counted_open : (new : List ℕ) → is_open (s.unset place) ≡ true → new ≡ mid ++ place ∷ [] → (z : ℕ) → Among new z ↔ (Among old z ⊎ CountsIn (place ∷ []) s z)
    counted_open new o e z = (λ h. there (among_append mid (place ∷ []) z (subst (λ xs. Among xs z) e h)), λ h. subst (λ xs. Among xs z) (sym e) (back h))
      where
        there : Among mid z ⊎ Among (place ∷ []) z → Among old z ⊎ CountsIn (place ∷ []) s z
        there (inl f) = elim (among_append old row z (subst (λ xs. Among xs z) put f)) [ inl g ↦ inl g | inr g ↦ inr (place, inl refl, inr (subst (λ xs. Among xs z) is g)) ]
        there (inr (inl k)) = inr (place, inl refl, inl (sym k, o))
        there (inr (inr k)) = absurd k

        back : Among old z ⊎ CountsIn (place ∷ []) s z → Among (mid ++ place ∷ []) z
        back (inl f) = append_left mid (place ∷ []) z (subst (λ xs. Among xs z) (sym put) (append_left old row z f))
        back (inr (y, inl k, inl f)) = append_right mid (place ∷ []) z (inl (k ∙ sym f.0))
        back (inr (y, inl k, inr f)) = append_left mid (place ∷ []) z (subst (λ xs. Among xs z) (sym put) (append_right old row z (subst (λ xs. Among xs z) (sym (is ∙ ap s.through k)) f)))
        back (inr (y, inr k, f)) = absurd k

    -- and where it is
    pub counted_set : is_open (s.unset place) ≡ false → (z : ℕ) → Among mid z ↔ (Among old z ⊎ CountsIn (place ∷ []) s z)
    counted_set o z = (there, back)
      where
        there : Among mid z → Among old z ⊎ CountsIn (place ∷ []) s z
        there f = elim (among_append old row z (subst (λ xs. Among xs z) put f)) [ inl g ↦ inl g | inr g ↦ inr (place, inl refl, inr (subst (λ xs. Among xs z) is g)) ]

        back : Among old z ⊎ CountsIn (place ∷ []) s z → Among mid z
        back (inl f) = subst (λ xs. Among xs z) (sym put) (append_left old row z f)
        back (inr (y, inl k, inl f)) = absurd (clash (sym o ∙ subst (λ j. is_open (s.unset j) ≡ true) (sym k) f.1))
        back (inr (y, inl k, inr f)) = subst (λ xs. Among xs z) (sym put) (append_right old row z (subst (λ xs. Among xs z) (sym (is ∙ ap s.through k)) f))
        back (inr (y, inr k, f)) = absurd k

  -- with the places before one, and it
  pub counts_next : (read : List ℕ) (i d : ℕ) (z : ℕ) → i < length read → CountsIn (take (i + 1) read) s z ↔ (CountsIn (take i read) s z ⊎ CountsIn (get_or read i d ∷ []) s z)
  counts_next read i d z lt = subst (λ xs. CountsIn xs s z ↔ (CountsIn (take i read) s z ⊎ CountsIn (get_or read i d ∷ []) s z)) (sym (take_more read i d lt)) (counts_more (take i read) (get_or read i d ∷ []) z)

-- ---- places whose words have a bit

module _ (unset : ℕ → ℕ) where
  abbrev pub Opens : List ℕ → ℕ → Type 0
  Opens places i = Among places i × (is_open (unset i) ≡ true)

  opens_more : (xs ys : List ℕ) (i : ℕ) → Opens (xs ++ ys) i ↔ (Opens xs i ⊎ Opens ys i)
  opens_more xs ys i = (
    λ h. elim (among_append xs ys i h.0) [ inl f ↦ inl (f, h.1) | inr f ↦ inr (f, h.1) ],
    λ h. elim h [ inl f ↦ (append_left xs ys i f.0, f.1) | inr f ↦ (append_right xs ys i f.0, f.1) ],
  )

  pub opens_next : (places : List ℕ) (k d : ℕ) (i : ℕ) → k < length places → Opens (take (k + 1) places) i ↔ (Opens (take k places) i ⊎ Opens (get_or places k d ∷ []) i)
  opens_next places k d i lt = subst (λ xs. Opens xs i ↔ (Opens (take k places) i ⊎ Opens (get_or places k d ∷ []) i)) (sym (take_more places k d lt)) (opens_more (take k places) (get_or places k d ∷ []) i)

  pub opened : (place : ℕ) (old new : List ℕ) → is_open (unset place) ≡ true → new ≡ old ++ place ∷ [] → (i : ℕ) → Among new i ↔ (Among old i ⊎ Opens (place ∷ []) i)
  opened place old new o e i = (λ h. there (among_append old (place ∷ []) i (subst (λ xs. Among xs i) e h)), λ h. subst (λ xs. Among xs i) (sym e) (back h))
    where
      there : Among old i ⊎ Among (place ∷ []) i → Among old i ⊎ Opens (place ∷ []) i
      there (inl f) = inl f
      there (inr (inl k)) = inr (inl k, subst (λ j. is_open (unset j) ≡ true) k o)
      there (inr (inr k)) = absurd k

      back : Among old i ⊎ Opens (place ∷ []) i → Among (old ++ place ∷ []) i
      back (inl f) = append_left old (place ∷ []) i f
      back (inr f) = append_right old (place ∷ []) i f.0

  pub not_opened : (place : ℕ) (old : List ℕ) → is_open (unset place) ≡ false → (i : ℕ) → Among old i ↔ (Among old i ⊎ Opens (place ∷ []) i)
  not_opened place old o i = (λ h. inl h, λ h. elim h [ inl f ↦ f | inr f ↦ absurd (never f) ])
    where
      never : Opens (place ∷ []) i → ⊥
      never (inl k, f) = clash (sym o ∙ subst (λ j. is_open (unset j) ≡ true) (sym k) f)
      never (inr k, f) = k

-- ---- places that stand in a list, too

module _ (rising : List ℕ) where
  abbrev pub Both : List ℕ → ℕ → Type 0
  Both places i = Among places i × Among rising i

  pub both_put : (places : List ℕ) (k : ℕ) (old new : List ℕ) → k < length places → Among rising (get_or places k 0) → new ≡ old ++ get_or places k 0 ∷ [] → ((i : ℕ) → Among old i ↔ Both (take k places) i) → (i : ℕ) → Among new i ↔ Both (take (k + 1) places) i
  both_put places k old new lt has put inv i = (λ h. there (among_append old (get_or places k 0 ∷ []) i (subst (λ z. Among z i) put h)), λ h. subst (λ z. Among z i) (sym put) (back h.1 (among_append (take k places) (get_or places k 0 ∷ []) i (subst (λ z. Among z i) next h.0))))
    where
      next : take (k + 1) places ≡ take k places ++ get_or places k 0 ∷ []
      next = take_more places k 0 lt

      there : Among old i ⊎ Among (get_or places k 0 ∷ []) i → Both (take (k + 1) places) i
      there (inl f) = let r = (inv i).0 f in (subst (λ z. Among z i) (sym next) (append_left (take k places) (get_or places k 0 ∷ []) i r.0), r.1)
      there (inr (inl e)) = (subst (λ z. Among z i) (sym next) (append_right (take k places) (get_or places k 0 ∷ []) i (inl e)), subst (λ z. Among rising z) e has)
      there (inr (inr e)) = absurd e

      back : Among rising i → Among (take k places) i ⊎ Among (get_or places k 0 ∷ []) i → Among (old ++ get_or places k 0 ∷ []) i
      back r (inl f) = append_left old (get_or places k 0 ∷ []) i ((inv i).1 (f, r))
      back r (inr f) = append_right old (get_or places k 0 ∷ []) i f

  pub both_passed : (places : List ℕ) (k : ℕ) (old : List ℕ) → k < length places → (Among rising (get_or places k 0) → ⊥) → ((i : ℕ) → Among old i ↔ Both (take k places) i) → (i : ℕ) → Among old i ↔ Both (take (k + 1) places) i
  both_passed places k old lt lacks inv i = (λ h. let r = (inv i).0 h in (subst (λ z. Among z i) (sym next) (append_left (take k places) (get_or places k 0 ∷ []) i r.0), r.1), λ h. back h.1 (among_append (take k places) (get_or places k 0 ∷ []) i (subst (λ z. Among z i) next h.0)))
    where
      next : take (k + 1) places ≡ take k places ++ get_or places k 0 ∷ []
      next = take_more places k 0 lt

      back : Among rising i → Among (take k places) i ⊎ Among (get_or places k 0 ∷ []) i → Among old i
      back r (inl f) = (inv i).1 (f, r)
      back r (inr (inl e)) = absurd (lacks (subst (λ z. Among rising z) (sym e) r))
      back r (inr (inr e)) = absurd e
