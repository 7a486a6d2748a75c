-- Names of distinct signals, and their places.
use Rattle.std.proofs.Common.{◌≡◌, ℕ, zero, suc, ◌+◌, ◌<◌, ◌↔◌, inl, inr, Bool, true, List, [], ◌∷◌, map, Some, arith, refl, sym, ap, ◌∙◌, subst}
use Rattle.std.specs.Prelude.{unwrap_or}
use Rattle.std.specs.Option.{option_map}
use Rattle.std.specs.Str.{bytes_eq}
use Rattle.std.specs.Int.{bit_at}
use Rattle.std.proofs.lemmas.Bool.{cases_Bool}
use Rattle.std.proofs.lemmas.Slice.Eq.{bytes_eq-Decides}
use Rattle.vlog_tree.specs.declared.stmt.Lval.{Lval, Row_of-Lval, end_of-Lval, more_of-Lval}
use Rattle.vlog_tree.specs.declared.stmt.Lval.TheVariants as l
use Rattle.vlog_tree_runs.specs.declared.flat.Signal.{Signal}
use Rattle.vlog_tree_runs.specs.Places.{Name, Among, Place}
use Rattle.vlog_tree_runs.specs.Blocks.{signal_at}
use Rattle.elab_flat_laws.proofs.Lists.{among_append, append_left, append_right}
use Rattle.elab_flat_scopes.specs.Finding.{place_from, place_in}
use Rattle.elab_flat_faults.specs.Paths.{Sets, AnySets, width_in}
use Rattle.elab_flat_faults.specs.Drivers.{parts_of, row_parts_of}
use Rattle.elab_step_laws.specs.Laws.{place_over}
use Rattle.elab_flat_drivers.specs.Claims.{part_name}
use Rattle.elab_flat_drivers.proofs.Parting.{IsPiece, parts_are}
use Rattle.elab_step_flow.specs.Sets.{Has}
use Rattle.elab_step_flow.specs.Shows.{IsAt, Marks, AreDistinct}
use Rattle.elab_flat_drivers.specs.Spots.{signal_name}
use Rattle.elab_step_flow.specs.Marks.{Adds}
use Rattle.elab_step_flow.specs.Words.{IsSignalAt, IsSetAt, AnySetAt, set_word}
use Rattle.elab_step_flow.proofs.Setting.{word_sets, among_signals}

same_bytes : (x y : Name) → bytes_eq x y ≡ true → x ≡ y
same_bytes x y e = (bytes_eq-Decides x y).0 e

some_is : {A : Type 0} (x y : A) → Some x ≡ Some y → x ≡ y
some_is x y e = cc

pub one_name : (gs : List Signal) (i : ℕ) (x y : Name) → IsAt gs i x → IsAt gs i y → x ≡ y
one_name [] i x y a b = absurd a
one_name (g ∷ gs) zero x y a b = sym a ∙ b
one_name (g ∷ gs) (suc i) x y a b = one_name gs i x y a b

signal_of : (gs : List Signal) (i : ℕ) (x : Name) → IsAt gs i x → (g : Signal) × IsSignalAt gs i g
signal_of [] i x a = absurd a
signal_of (g ∷ gs) zero x a = (g, refl)
signal_of (g ∷ gs) (suc i) x a = signal_of gs i x a

-- the first place of a name
place_at : (k : ℕ) (gs : List Signal) (x : Name) (i : ℕ) → place_from k (map signal_name gs) x ≡ Some i → (j : ℕ) × (i ≡ k + j) × IsAt gs j x
place_at k [] x i e = cc
place_at k (g ∷ gs) x i e = elim (cases_Bool (bytes_eq g.name x)) [
  | inl t ↦ (let h : k ≡ i = some_is k i (rw t at e) in (0, omega arith, same_bytes g.name x t))
  | inr f ↦ (let r = place_at (suc k) gs x i (rw f at e) in let h : i ≡ suc k + r.0 = r.1 in (suc r.0, omega arith, r.2))
]

place_there : (k : ℕ) (gs : List Signal) (x : Name) (j : ℕ) → IsAt gs j x → (i : ℕ) × (place_from k (map signal_name gs) x ≡ Some i)
place_there k [] x j a = absurd a
place_there k (g ∷ gs) x zero a = elim (cases_Bool (bytes_eq g.name x)) [
  | inl t ↦ (k, rw t refl)
  | inr f ↦ (let z = sym ((bytes_eq-Decides g.name x).1 a) ∙ f in cc)
]
place_there k (g ∷ gs) x (suc j) a = elim (cases_Bool (bytes_eq g.name x)) [
  | inl t ↦ (k, rw t refl)
  | inr f ↦ (let r = place_there (suc k) gs x j a in (r.0, rw f r.1))
]

-- the signal there is the first one of the name
first_signal : (k : ℕ) (gs : List Signal) (x : Name) (i j : ℕ) (g : Signal) → place_from k (map signal_name gs) x ≡ Some i → i ≡ k + j → IsSignalAt gs j g → signal_at gs x ≡ Some g
first_signal k [] x i j g e s a = absurd a
first_signal k (h ∷ gs) x i zero g e s a = elim (cases_Bool (bytes_eq h.name x)) [
  | inl t ↦ rw t (ap Some a)
  | inr f ↦ (let r = place_at (suc k) gs x i (rw f at e) in let z : i ≡ suc k + r.0 = r.1 in absurd (omega arith))
]
first_signal k (h ∷ gs) x i (suc j) g e s a = elim (cases_Bool (bytes_eq h.name x)) [
  | inl t ↦ (let z : k ≡ i = some_is k i (rw t at e) in absurd (omega arith))
  | inr f ↦ rw f (first_signal (suc k) gs x i j g (rw f at e) (omega arith) a)
]

module _ (gs : List Signal) where
  abbrev p : Place
  p = place_over gs

  pub place_name : (x : Name) (i : ℕ) → place_in (map signal_name gs) x ≡ Some i → IsAt gs i x
  place_name x i e = let r = place_at 0 gs x i e in let s : i ≡ 0 + r.0 = r.1 in subst (λ k. IsAt gs k x) (back i r.0 s) r.2
    where
      back : (i j : ℕ) → i ≡ 0 + j → j ≡ i
      back i j e = omega arith

  pub shape_of : (x : Name) (i : ℕ) (g : Signal) → place_in (map signal_name gs) x ≡ Some i → IsSignalAt gs i g → signal_at gs x ≡ Some g
  shape_of x i g e a = first_signal 0 gs x i i g e (omega arith) a

  module _ (d : AreDistinct gs) where
    pub place_of_name : (x : Name) (i : ℕ) → IsAt gs i x → place_in (map signal_name gs) x ≡ Some i
    place_of_name x i a = let r = place_there 0 gs x i a in subst (λ k. place_in (map signal_name gs) x ≡ Some k) (d r.0 i x (place_name x r.0 r.1) a) r.1

    -- the places of names that are added to none are those of the names
    pub adds_marks : (xs : List Name) (old new : List Bool) → ((i : ℕ) → Has old i → ⊥) → Adds (map signal_name gs) xs old new → Marks gs new (λ x. Among xs x)
    adds_marks xs old new none h i x a = (
      λ k. elim ((h i).0 k) [ inl f ↦ absurd (none i f) | inr f ↦ subst (λ z. Among xs z) (one_name gs i f.0 x (place_name f.0 i f.2) a) f.1 ],
      λ k. (h i).1 (inr (x, k, place_of_name x i a)),
    )

    sets_name : (q : Lval) (x : Name) (b : ℕ) → IsPiece q → Sets p q x b → part_name q ≡ x
    sets_name (l.Name y) x b t h = h
    sets_name (l.Select y a) x b t h = h.0
    sets_name (l.Part y span a c) x b t h = h.0
    sets_name (l.Concat' g row) x b t h = absurd t

    module _ (i b : ℕ) (x : Name) (a : IsAt gs i x) (lt : b < width_in p x) where
      part_sets : (q : Lval) → IsPiece q → IsSetAt gs q i b ↔ Sets p q x b
      part_sets q t = (there, back)
        where
          at_width : (y : Name) (g : Signal) → y ≡ x → signal_at gs y ≡ Some g → b < g.width
          at_width y g e s = subst (λ n. b < n) (ap (width_in p) (sym e) ∙ ap (λ o. unwrap_or (option_map (λ (g : Signal). g.width) o) 0) s) lt

          is_same : (g : Signal) → place_in (map signal_name gs) (part_name q) ≡ Some i → IsSignalAt gs i g → (part_name q ≡ x) → (bit_at (set_word g.width g.low q) b ≡ 1) ↔ Sets p q (part_name q) b
          is_same g e s n =
              let k = shape_of (part_name q) i g e s in
              word_sets gs g.width g.low b (at_width (part_name q) g n k) q t (ap (λ o. unwrap_or (option_map (λ (g : Signal). g.low) o) 0) k)

          there : IsSetAt gs q i b → Sets p q x b
          there (g, e, s, h) = let n = one_name gs i (part_name q) x (place_name (part_name q) i e) a in subst (λ z. Sets p q z b) n ((is_same g e s n).0 h)

          back : Sets p q x b → IsSetAt gs q i b
          back h =
              let n = sets_name q x b t h in
              let g = signal_of gs i x a in
              let e = subst (λ z. place_in (map signal_name gs) z ≡ Some i) (sym n) (place_of_name x i a) in
              (g.0, e, g.1, (is_same g.0 e g.1 n).1 (subst (λ z. Sets p q z b) (sym n) h))

      mutual
        parts_set : (left : Lval) → Sets p left x b → (q : Lval) × Among (parts_of left) q × Sets p q x b
        parts_set (l.Name y) h = (l.Name y, inl refl, h)
        parts_set (l.Select y c) h = (l.Select y c, inl refl, h)
        parts_set (l.Part y span c e) h = (l.Part y span c e, inl refl, h)
        parts_set (l.Concat' g row) h = row_parts_set row h

        row_parts_set : {m : _} (row : Row_of-Lval m) → AnySets p row x b → (q : Lval) × Among (row_parts_of row) q × Sets p q x b
        row_parts_set end_of-Lval h = absurd h
        row_parts_set (more_of-Lval c rest) (inl h) = let r = parts_set c h in (r.0, append_left (parts_of c) (row_parts_of rest) r.0 r.1, r.2)
        row_parts_set (more_of-Lval c rest) (inr h) = let r = row_parts_set rest h in (r.0, append_right (parts_of c) (row_parts_of rest) r.0 r.1, r.2)

      mutual
        set_parts : (left q : Lval) → Among (parts_of left) q → Sets p q x b → Sets p left x b
        set_parts (l.Name y) q (inl e) h = subst (λ z. Sets p z x b) (sym e) h
        set_parts (l.Name y) q (inr e) h = absurd e
        set_parts (l.Select y c) q (inl e) h = subst (λ z. Sets p z x b) (sym e) h
        set_parts (l.Select y c) q (inr e) h = absurd e
        set_parts (l.Part y span c k) q (inl e) h = subst (λ z. Sets p z x b) (sym e) h
        set_parts (l.Part y span c k) q (inr e) h = absurd e
        set_parts (l.Concat' g row) q e h = row_set_parts row q e h

        row_set_parts : {m : _} (row : Row_of-Lval m) (q : Lval) → Among (row_parts_of row) q → Sets p q x b → AnySets p row x b
        row_set_parts end_of-Lval q e h = absurd e
        row_set_parts (more_of-Lval c rest) q e h = elim (among_append (parts_of c) (row_parts_of rest) q e) [ inl f ↦ inl (set_parts c q f h) | inr f ↦ inr (row_set_parts rest q f h) ]

      -- the bits of words are those that the left side surely sets
      pub words_set : (left : Lval) → AnySetAt gs (parts_of left) i b ↔ Sets p left x b
      words_set left = (
        λ h. set_parts left h.0 h.1 ((part_sets h.0 (parts_are left h.0 h.1)).0 h.2),
        λ h. let r = parts_set left h in (r.0, r.1, (part_sets r.0 (parts_are left r.0 r.1)).1 r.2),
      )

-- the first signal of a name
pub named_signal : (gs : List Signal) → AreDistinct gs → (x : Name) (i : ℕ) → IsAt gs i x → (g : Signal) × Among gs g × (signal_at gs x ≡ Some g)
named_signal gs d x i a =
    let g = signal_of gs i x a in (g.0, among_signals gs i g.0 g.1, shape_of gs x i g.0 (place_of_name gs d x i a) g.1)

-- the signal at a place has the length of its name
pub shown_signal : (gs : List Signal) → AreDistinct gs → (x : Name) (i : ℕ) → IsAt gs i x → (g : Signal) × IsSignalAt gs i g × (width_in (place_over gs) x ≡ g.width)
shown_signal gs d x i a =
    let g = signal_of gs i x a in
    (g.0, g.1, ap (λ o. unwrap_or (option_map (λ (g : Signal). g.width) o) 0) (shape_of gs x i g.0 (place_of_name gs d x i a) g.1))
