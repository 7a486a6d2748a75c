-- Case statements at rest: defaults, lengths and values of labels, and what these cover.
use Rattle.std.proofs.Common.{◌≡◌, ℕ, zero, suc, ◌+◌, ◌≤◌, ◌<◌, ◌^◌, max, ◌⊎◌, ◌↔◌, ◌&&◌, inl, inr, Bool, true, false, List, [], ◌∷◌, map, length, get_or, drop, cond, arith, refl, sym, ap, ◌∙◌, subst}
use Rattle.std.specs.Prelude.{IsTrue, nat_eq, MatchBool}
use Rattle.std.proofs.Math.Dec.{eqb-suc-zero}
use Rattle.std.proofs.lemmas.Bool.{cases_Bool, eq-eqb, eqb-true}
use Rattle.std.specs.Borrow.{Bor}
use Rattle.vlog_tree.specs.declared.expr.Expr.{Expr}
use Rattle.vlog_tree.specs.declared.stmt.CaseItem.{CaseItem}
use Rattle.vlog_tree.specs.declared.stmt.Lval.{Lval}
use Rattle.vlog_tree.specs.declared.valuation.Entry.{Entry}
use Rattle.vlog_tree.specs.Value.{NamesOnly, width_of, sign_of, value_of, extend}
use Rattle.vlog_tree_runs.specs.Places.{Among, Place}
use Rattle.vlog_tree_runs.specs.Blocks.{is_default, widest, all_signed, case_width, case_sign}
use Rattle.elab_flat_faults.specs.Paths.{AllConstant, IsLabel, IsSimple, CoversAll}
use Rattle.elab_flat_drivers.specs.declared.parts.Part.{Part}
use Rattle.elab_flat_drivers.specs.Parts.{reads_of, part_meant}
use Rattle.elab_flat_drivers.specs.Claims.{nothing}
use Rattle.elab_flat_drivers.proofs.Constants.{no_names, no_reads}
use Rattle.elab_step_flow.specs.Cases.{expr_meant, AnyDefault, AreValues, HasAll}
use Rattle.elab_step_flow.proofs.Listing.{first_or}
use Rattle.elab_step_flow.proofs.Marking.{cut, drop_past}

-- ---- the default

pub is_there : (b : Bool) → true ≡ b → IsTrue b
is_there b e = sym e

pub default_passed : (items : List CaseItem) (i : ℕ) (x : CaseItem) → i < length items → x ≡ get_or items i x → is_default x.labels ≡ false → AnyDefault (drop i items) → AnyDefault (drop (i + 1) items)
default_passed items i x lt is other (y, m, d) = elim (first_or items i x y lt is m) [
  | inl e ↦ (let z : false ≡ true = sym other ∙ (ap (λ (z : CaseItem). is_default z.labels) e ∙ d) in cc)
  | inr r ↦ (y, r, d)
]

-- ---- labels without names

empty : (xs : List Part) (ys : List Lval) → true ≡ nat_eq (length xs) 0 → map part_meant xs ≡ ys → ys ≡ []
empty [] ys e h = sym h
empty (x ∷ xs) ys e h = let z = e ∙ eqb-suc-zero (length xs) in cc

some : (xs : List Part) → false ≡ nat_eq (length xs) 0 → map part_meant xs ≡ [] → ⊥
some [] e h = cc
some (x ∷ xs) e h = cc

-- an expression has no names where it reads nothing
pub reads_tell : (b : Bool) (xs : List Part) (a : Expr) → b ≡ nat_eq (length xs) 0 → map part_meant xs ≡ reads_of a → MatchBool b (NamesOnly nothing a) (NamesOnly nothing a → ⊥)
reads_tell true xs a e h = no_names a (empty xs (reads_of a) e h)
reads_tell false xs a e h = λ n. some xs e (h ∙ no_reads a n)

pub told_true : (b : Bool) (P Q : Type 0) → b ≡ true → MatchBool b P Q → P
told_true true P Q e h = h
told_true false P Q e h = absurd (clash e)
  where
    clash : false ≡ true → ⊥
    clash e = cc

pub told_else : (b : Bool) (P Q R S : Type 0) → (P → R) → (Q → S) → MatchBool b P Q → MatchBool b R S
told_else true P Q R S f g h = f h
told_else false P Q R S f g h = g h

pub told_false : (b : Bool) (P Q : Type 0) → b ≡ false → MatchBool b P Q → Q
told_false true P Q e h = let z : true ≡ false = e in absurd (clash z)
  where
    clash : true ≡ false → ⊥
    clash e = cc
told_false false P Q e h = h

-- from a place on
abbrev pub ConstantFrom : List (Bor Expr) → ℕ → Type 0
ConstantFrom labels i = (b : Expr) → Among (map expr_meant labels) b → Among (map expr_meant (drop i labels)) b ⊎ NamesOnly nothing b

pub meant_among : (labels : List (Bor Expr)) (i : ℕ) (x : Bor Expr) → i < length labels → x ≡ get_or labels i x → Among (map expr_meant labels) x.now
meant_among [] i x lt is = absurd (omega arith)
meant_among (y ∷ labels) zero x lt is = inl (ap expr_meant (sym is))
meant_among (y ∷ labels) (suc i) x lt is = inr (meant_among labels i x (omega arith) is)

pub all_constant : (p : Place) (labels : List Expr) → ((b : Expr) → Among labels b → NamesOnly nothing b) → ((b : Expr) → NamesOnly nothing b → AllConstant p (b ∷ [])) → AllConstant p labels
all_constant p [] h k = tt
all_constant p (a ∷ labels) h k = ((k a (h a (inl refl))).0, all_constant p labels (λ b m. h b (inr m)) k)

module _ (p : Place) where
  pub each_constant : (labels : List Expr) (b : Expr) → AllConstant p labels → Among labels b → AllConstant p (b ∷ [])
  each_constant [] b h m = absurd m
  each_constant (a ∷ labels) b h (inl e) = subst (λ z. AllConstant p (z ∷ [])) e (h.0, tt)
  each_constant (a ∷ labels) b h (inr m) = each_constant labels b h.1 m

-- ---- the length and the sign of a comparison

max_max : (a b c : ℕ) → max (max a b) c ≡ max a (max b c)
max_max a b c = omega arith

and_and : (a b c : Bool) → ((a && b) && c) ≡ (a && (b && c))
and_and true b c = refl
and_and false b c = refl

and_true : (a : Bool) → (a && true) ≡ a
and_true true = refl
and_true false = refl

-- the length and the sign so far, and those of what is left
abbrev pub Longest : List Entry → ℕ → Bool → List (Bor Expr) → ℕ → Bool → Type 0
Longest v n s rest m t = (max n (widest v (map expr_meant rest)) ≡ m) × ((s && all_signed v (map expr_meant rest)) ≡ t)

module _ (v : List Entry) (labels : List (Bor Expr)) (i : ℕ) where
  pub longest_next : (x : Bor Expr) (n k m : ℕ) (s o t : Bool) → i < length labels → x ≡ get_or labels i x → k ≡ width_of v x.now → o ≡ sign_of v x.now → Longest v n s (drop i labels) m t
      → Longest v (max n k) (s && o) (drop (i + 1) labels) m t
  longest_next x n k m s o t lt is w g h =
      let rest : List Expr = map expr_meant (drop (i + 1) labels) in
      let e : map expr_meant (drop i labels) ≡ x.now ∷ rest = ap (map expr_meant) (cut labels i x lt is) in (
        max_max n k (widest v rest) ∙ (ap (λ z. max n (max z (widest v rest))) w ∙ (ap (λ z. max n (widest v z)) (sym e) ∙ h.0)),
        and_and s o (all_signed v rest) ∙ (ap (λ z. s && (z && all_signed v rest)) g ∙ (ap (λ z. s && all_signed v z) (sym e) ∙ h.1)),
      )

  -- the same of what is the longer of both
  pub longest_on : (x : Bor Expr) (n k m : ℕ) (s o t : Bool) (p : ℕ) (r : Bool) → i < length labels → x ≡ get_or labels i x → k ≡ width_of v x.now → o ≡ sign_of v x.now → p ≡ max n k → r ≡ (s && o)
      → Longest v n s (drop i labels) m t → Longest v p r (drop (i + 1) labels) m t
  longest_on x n k m s o t p r lt is w g e f h =
      subst (λ z. Longest v z r (drop (i + 1) labels) m t) (sym e) (subst (λ z. Longest v (max n k) z (drop (i + 1) labels) m t) (sym f) (longest_next x n k m s o t lt is w g h))

  pub longest_end : (n m : ℕ) (s t : Bool) → length labels ≤ i → Longest v n s (drop i labels) m t → (n ≡ m) × (s ≡ t)
  longest_end n m s t le h =
      let e : map expr_meant (drop i labels) ≡ [] = ap (map expr_meant) (drop_past labels i le) in
      let none : n ≡ max n 0 = omega arith in
      (none ∙ (ap (λ z. max n (widest v z)) (sym e) ∙ h.0), sym (and_true s) ∙ (ap (λ z. s && all_signed v z) (sym e) ∙ h.1))

pub widest_of : (v : List Entry) (labels : List Expr) (b : Expr) → Among labels b → width_of v b ≤ widest v labels
widest_of v [] b m = absurd m
widest_of v (a ∷ labels) b (inl e) = let h : width_of v a ≡ width_of v b = ap (width_of v) e in omega arith
widest_of v (a ∷ labels) b (inr m) = let h : width_of v b ≤ widest v labels = widest_of v labels b m in omega arith

-- ---- the values of labels

-- a number is put into a set
pub put_value : (k x n : ℕ) (old new : Bool) → k ≡ n → new ≡ cond (nat_eq k x) true old → (new ≡ true) ↔ ((old ≡ true) ⊎ (n ≡ x))
put_value k x n old new e up = elim (cases_Bool (nat_eq k x)) [
  | inl t ↦ (λ h. inr (sym e ∙ eqb-true k x t), λ h. up ∙ rw t refl)
  | inr f ↦ (λ h. inl (sym (up ∙ rw f refl) ∙ h), λ h. elim h [ inl g ↦ up ∙ (rw f refl ∙ g) | inr g ↦ absurd (apart f (e ∙ g)) ])
]
  where
    apart : nat_eq k x ≡ false → k ≡ x → ⊥
    apart f g = clash (sym (eq-eqb k x g) ∙ f)
      where
        clash : true ≡ false → ⊥
        clash z = cc

module _ (v : List Entry) (n : ℕ) (signed : Bool) where
  -- a set with the values of the labels that are left
  abbrev pub ValuesWith : List (Bor Expr) → List (Bor Expr) → (ℕ → Bool) → Type 0
  ValuesWith labels rest set = (x : ℕ) → ((set x ≡ true) ⊎ IsLabel v n signed (map expr_meant rest) x) ↔ IsLabel v n signed (map expr_meant labels) x

  pub values_next : (labels : List (Bor Expr)) (i : ℕ) (a : Bor Expr) (set next : ℕ → Bool) → i < length labels → a ≡ get_or labels i a
      → ((x : ℕ) → (next x ≡ true) ↔ ((set x ≡ true) ⊎ (value_of v a.now n signed ≡ x))) → ValuesWith labels (drop i labels) set → ValuesWith labels (drop (i + 1) labels) next
  values_next labels i a set next lt is put h x = (λ k. (h x).0 (there k), λ k. back ((h x).1 k))
    where
      e : drop i labels ≡ a ∷ drop (i + 1) labels
      e = cut labels i a lt is

      onto : IsLabel v n signed (a.now ∷ map expr_meant (drop (i + 1) labels)) x → IsLabel v n signed (map expr_meant (drop i labels)) x
      onto k = subst (λ z. IsLabel v n signed (map expr_meant z) x) (sym e) k

      there : (next x ≡ true) ⊎ IsLabel v n signed (map expr_meant (drop (i + 1) labels)) x → (set x ≡ true) ⊎ IsLabel v n signed (map expr_meant (drop i labels)) x
      there (inl f) = elim ((put x).0 f) [ inl g ↦ inl g | inr g ↦ inr (onto (a.now, inl refl, g)) ]
      there (inr (b, m, g)) = inr (onto (b, inr m, g))

      split : IsLabel v n signed (a.now ∷ map expr_meant (drop (i + 1) labels)) x → (next x ≡ true) ⊎ IsLabel v n signed (map expr_meant (drop (i + 1) labels)) x
      split (b, inl f, g) = inl ((put x).1 (inr (ap (λ z. value_of v z n signed) f ∙ g)))
      split (b, inr m, g) = inr (b, m, g)

      back : (set x ≡ true) ⊎ IsLabel v n signed (map expr_meant (drop i labels)) x → (next x ≡ true) ⊎ IsLabel v n signed (map expr_meant (drop (i + 1) labels)) x
      back (inl f) = inl ((put x).1 (inl f))
      back (inr f) = split (subst (λ z. IsLabel v n signed (map expr_meant z) x) e f)

-- ---- what is covered

module _ (v : List Entry) (a : Expr) (labels : List Expr) (set : ℕ → Bool) (n w : ℕ) (signed : Bool) (width : n ≡ case_width v a labels) (sign : signed ≡ case_sign v a labels) (own : w ≡ width_of v a)
    (values : AreValues v n signed labels set) where
  abbrev Wide : ℕ → Bool → Type 0
  Wide n signed = (x : ℕ) → x < 2 ^ n → IsLabel v n signed labels x

  abbrev Narrow : ℕ → ℕ → Bool → Type 0
  Narrow n w signed = IsSimple a × ((x : ℕ) → x < 2 ^ w → IsLabel v n signed labels (extend signed w n x))

  covers : Wide n signed ⊎ Narrow n w signed → CoversAll v a labels
  covers h = subst (λ m. Wide m (case_sign v a labels) ⊎ Narrow m (width_of v a) (case_sign v a labels)) width (subst (λ z. Wide n z ⊎ Narrow n (width_of v a) z) sign (subst (λ z. Wide n signed ⊎ Narrow n z signed) own h))

  covered : CoversAll v a labels → Wide n signed ⊎ Narrow n w signed
  covered h = subst (λ z. Wide n signed ⊎ Narrow n z signed) (sym own) (subst (λ z. Wide n z ⊎ Narrow n (width_of v a) z) (sym sign) (subst (λ m. Wide m (case_sign v a labels) ⊎ Narrow m (width_of v a) (case_sign v a labels)) (sym width) h))

  pub wide_covers : HasAll n n false set → CoversAll v a labels
  wide_covers h = covers (inl (λ x lt. (values x).0 (h x lt)))

  pub narrow_covers : IsSimple a → HasAll w n signed set → CoversAll v a labels
  narrow_covers t h = covers (inr (t, λ x lt. (values (extend signed w n x)).0 (h x lt)))

  pub covers_one : (HasAll n n false set → ⊥) → CoversAll v a labels → IsSimple a × HasAll w n signed set
  covers_one fails h = elim (covered h) [
    | inl f ↦ absurd (fails (λ x lt. (values x).1 (f x lt)))
    | inr f ↦ (f.0, λ x lt. (values (extend signed w n x)).1 (f.1 x lt))
  ]
