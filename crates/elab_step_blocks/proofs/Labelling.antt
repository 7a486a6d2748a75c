-- Lengths and signs of labels.
use Rattle.std.proofs.Common.{arith, ◌≡◌, ℕ, zero, suc, ◌+◌, ◌<◌, ◌≤◌, max, Bool, true, false, ◌&&◌, List, [], ◌∷◌, ◌++◌, length, get_or, drop, refl, sym, ap, ◌∙◌, subst}
use Rattle.vlog_tree.specs.declared.expr.Expr.{Expr}
use Rattle.vlog_tree.specs.declared.valuation.Entry.{Entry}
use Rattle.vlog_tree.specs.Value.{IsFormed, width_of, sign_of}
use Rattle.vlog_tree_values.specs.Shapes.{each_formed}
use Rattle.vlog_tree_runs.specs.Blocks.{widest, all_signed}

module _ {X : Type 0} where
  pub drop_at : (xs : List X) (i : ℕ) (d : X) → i < length xs → drop i xs ≡ get_or xs i d ∷ drop (i + 1) xs
  drop_at xs i d lt = let n : i + 1 ≡ suc i = omega arith in next xs i lt ∙ ap (λ k. get_or xs i d ∷ drop k xs) (sym n)
    where
      next : (xs : List X) (i : ℕ) → i < length xs → drop i xs ≡ get_or xs i d ∷ drop (suc i) xs
      next [] i lt = absurd (omega arith)
      next (u ∷ xs) zero lt = refl
      next (u ∷ xs) (suc i) lt = next xs i (omega arith)

  pub drop_all : (xs : List X) (i : ℕ) → length xs ≤ i → drop i xs ≡ []
  drop_all [] zero le = refl
  drop_all [] (suc i) le = refl
  drop_all (t ∷ xs) zero le = absurd (omega arith)
  drop_all (t ∷ xs) (suc i) le = drop_all xs i (omega arith)

max_max : (a b c : ℕ) → max (max a b) c ≡ max a (max b c)
max_max a b c = omega arith

and_and : (a b c : Bool) → ((a && b) && c) ≡ (a && (b && c))
and_and true b c = refl
and_and false b c = refl

and_true : (a : Bool) → (a && true) ≡ a
and_true true = refl
and_true false = refl

pub widest_append : (v : List Entry) (xs ys : List Expr) → widest v (xs ++ ys) ≡ max (widest v xs) (widest v ys)
widest_append v [] ys = omega arith
widest_append v (x ∷ xs) ys = ap (λ k. max (width_of v x) k) (widest_append v xs ys) ∙ sym (max_max (width_of v x) (widest v xs) (widest v ys))

pub signed_append : (v : List Entry) (xs ys : List Expr) → all_signed v (xs ++ ys) ≡ (all_signed v xs && all_signed v ys)
signed_append v [] ys = refl
signed_append v (x ∷ xs) ys = ap (λ k. sign_of v x && k) (signed_append v xs ys) ∙ sym (and_and (sign_of v x) (all_signed v xs) (all_signed v ys))

-- the length and the sign so far, and those of what is left
abbrev pub Longest : List Entry → ℕ → Bool → List Expr → ℕ → Bool → Type 0
Longest v n s rest m t = (max n (widest v rest) ≡ m) × ((s && all_signed v rest) ≡ t)

pub longest_next : (v : List Entry) (xs : List Expr) (i : ℕ) (x d : Expr) (n k m : ℕ) (s o t : Bool) → i < length xs → x ≡ get_or xs i d → k ≡ width_of v x → o ≡ sign_of v x → Longest v n s (drop i xs) m t
    → Longest v (max n k) (s && o) (drop (i + 1) xs) m t
longest_next v xs i x d n k m s o t lt e w g h =
    let is : drop i xs ≡ x ∷ drop (i + 1) xs = drop_at xs i d lt ∙ ap (λ z. z ∷ drop (i + 1) xs) (sym e) in (
      max_max n k (widest v (drop (i + 1) xs)) ∙ ap (λ z. max n (max z (widest v (drop (i + 1) xs)))) w ∙ ap (λ z. max n (widest v z)) (sym is) ∙ h.0,
      and_and s o (all_signed v (drop (i + 1) xs)) ∙ ap (λ z. s && (z && all_signed v (drop (i + 1) xs))) g ∙ ap (λ z. s && all_signed v z) (sym is) ∙ h.1,
    )

pub longest_end : (v : List Entry) (xs : List Expr) (i : ℕ) (n m : ℕ) (s t : Bool) → length xs ≤ i → Longest v n s (drop i xs) m t → (n ≡ m) × (s ≡ t)
longest_end v xs i n m s t le h =
    let is = drop_all xs i le in
    let none : n ≡ max n 0 = omega arith in
    (none ∙ ap (λ z. max n (widest v z)) (sym is) ∙ h.0, sym (and_true s) ∙ ap (λ z. s && all_signed v z) (sym is) ∙ h.1)

pub formed_at : (v : List Entry) (xs : List Expr) (i : ℕ) (x d : Expr) → each_formed v xs → i < length xs → x ≡ get_or xs i d → IsFormed v x
formed_at v [] i x d h lt e = absurd (omega arith)
formed_at v (y ∷ xs) zero x d h lt e = subst (λ z. IsFormed v z) (sym e) h.0
formed_at v (y ∷ xs) (suc i) x d h lt e = formed_at v xs i x d h.1 (omega arith) e
