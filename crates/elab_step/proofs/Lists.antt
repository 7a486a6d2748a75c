-- Lists of parts, one after another.
use Rattle.std.proofs.Common.{◌≡◌, ◌≢◌, ℕ, zero, suc, ◌+◌, ◌<◌, ◌≤◌, List, [], ◌∷◌, ◌++◌, map, length, drop, get_or, slice_index_or, append_assoc, arith, refl, sym, ap, ◌∙◌, subst, inl, inr, ⊎_elim}
use Rattle.std.specs.List.{AllPairs, flat_map}
use Rattle.vlog_tree_runs.specs.Places.{Name, Among}
use Rattle.elab_flat_laws.proofs.Lists.{among_append}
use Rattle.elab_step_nets.specs.Solving.{AreDistinct}
use Rattle.elab_step.specs.Parts.{zip3}

module _ {A B C : Type 0} where
  zip_next : (xs : List A) (ys : List B) (zs : List C) (i : ℕ) (x u : A) (y : B) (z : C) → i < length xs → i < length ys → i < length zs → x ≡ get_or xs i u → y ≡ get_or ys i y → z ≡ get_or zs i z
      → drop i (zip3 xs ys zs) ≡ (x, y, z) ∷ drop (suc i) (zip3 xs ys zs)
  zip_next [] ys zs i x u y z l m n e f g = absurd (omega arith)
  zip_next (a ∷ xs) [] zs i x u y z l m n e f g = absurd (omega arith)
  zip_next (a ∷ xs) (b ∷ ys) [] i x u y z l m n e f g = absurd (omega arith)
  zip_next (a ∷ xs) (b ∷ ys) (c ∷ zs) zero x u y z l m n e f g = λ r. (sym e r, sym f r, sym g r) ∷ zip3 xs ys zs
  zip_next (a ∷ xs) (b ∷ ys) (c ∷ zs) (suc i) x u y z l m n e f g = zip_next xs ys zs i x u y z (omega arith) (omega arith) (omega arith) e f g

  pub zip_at : (xs : List A) (ys : List B) (zs : List C) (i : ℕ) (x u : A) (y : B) (z : C) → i < length xs → i < length ys → i < length zs → x ≡ get_or xs i u → y ≡ get_or ys i y → z ≡ get_or zs i z
      → drop i (zip3 xs ys zs) ≡ (x, y, z) ∷ drop (i + 1) (zip3 xs ys zs)
  zip_at xs ys zs i x u y z l m n e f g = let k : suc i ≡ i + 1 = omega arith in zip_next xs ys zs i x u y z l m n e f g ∙ ap (λ j. (x, y, z) ∷ drop j (zip3 xs ys zs)) k

  pub zip_long : (xs : List A) (ys : List B) (zs : List C) → length (zip3 xs ys zs) ≤ length xs
  zip_long [] ys zs = omega arith
  zip_long (x ∷ xs) [] zs = omega arith
  zip_long (x ∷ xs) (y ∷ ys) [] = omega arith
  zip_long (x ∷ xs) (y ∷ ys) (z ∷ zs) = let r = zip_long xs ys zs in omega (arith, r)

-- one more at the end, and then the rest
pub flat_next : {X Y : Type 0} (f : X → List Y) (zs : List X) (i : ℕ) (old new whole : List Y) (t : X) → drop i zs ≡ t ∷ drop (i + 1) zs → new ≡ old ++ f t → old ++ flat_map f (drop i zs) ≡ whole → new ++ flat_map f (drop (i + 1) zs) ≡ whole
flat_next f zs i old new whole t cut made h =
    ap (λ ys. ys ++ flat_map f (drop (i + 1) zs)) made ∙ append_assoc old (f t) (flat_map f (drop (i + 1) zs)) ∙ ap (λ ys. old ++ flat_map f ys) (sym cut) ∙ h

pub map_next : {X Y : Type 0} (f : X → Y) (zs : List X) (i : ℕ) (old new whole : List Y) (t : X) (y : Y) → drop i zs ≡ t ∷ drop (i + 1) zs → new ≡ old ++ y ∷ [] → y ≡ f t → old ++ map f (drop i zs) ≡ whole → new ++ map f (drop (i + 1) zs) ≡ whole
map_next f zs i old new whole t y cut made is h =
    ap (λ ys. ys ++ map f (drop (i + 1) zs)) (made ∙ ap (λ z. old ++ z ∷ []) is) ∙ append_assoc old (f t ∷ []) (map f (drop (i + 1) zs)) ∙ ap (λ ys. old ++ map f ys) (sym cut) ∙ h

-- ---- names that differ

among_at : (xs : List Name) (i : ℕ) (d : Name) → i < length xs → Among xs (slice_index_or xs i d)
among_at [] i d l = absurd (omega arith)
among_at (x ∷ xs) zero d l = inl refl
among_at (x ∷ xs) (suc i) d l = inr (among_at xs i d (omega arith))

pub pairs_differ : (xs : List Name) → AreDistinct xs → AllPairs (λ x y. x ≢ y) xs
pairs_differ [] h i j d lt l = absurd (omega arith)
pairs_differ (x ∷ xs) h zero zero d lt l = absurd (omega arith)
pairs_differ (x ∷ xs) h zero (suc j) d lt l = λ e. h.0 (subst (λ z. Among xs z) (sym e) (among_at xs j d (omega arith)))
pairs_differ (x ∷ xs) h (suc i) zero d lt l = absurd (omega arith)
pairs_differ (x ∷ xs) h (suc i) (suc j) d lt l = pairs_differ xs h.1 i j d (omega arith) (omega arith)

pub distinct_both : (xs ys : List Name) → AreDistinct xs → AreDistinct ys → ((x : Name) → Among xs x → Among ys x → ⊥) → AreDistinct (xs ++ ys)
distinct_both [] ys h k apart = k
distinct_both (x ∷ xs) ys h k apart = (
  λ m. ⊎_elim h.0 (apart x (inl refl)) (among_append xs ys x m),
  distinct_both xs ys h.1 k (λ y m n. apart y (inr m) n),
)
