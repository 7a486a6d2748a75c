-- One more element at the end of what is spelt so far.
use Rattle.std.proofs.Common.{◌≡◌, ℕ, ◌+◌, max, List, [], ◌∷◌, ◌++◌, refl, sym, subst, arith}
use Rattle.vlog_tree.specs.Lists.{More, Separated, Sequence, highest}

module _ {A : Type 0} (P : ℕ → A → ℕ → Type 0) where
  pub sequence_more : (xs : List A) (i m j : ℕ) (x : A) → Sequence P i xs m → P m x j → Sequence P i (xs ++ x ∷ []) j
  sequence_more [] i m j x s p = (j, subst (λ z. P z x j) (sym s) p, refl)
  sequence_more (y ∷ ys) i m j x (n, q, rest) p = (n, q, sequence_more ys n m j x rest p)

  pub more_more : (sep : ℕ → Type 0) (xs : List A) (i m j : ℕ) (x : A) → More sep P i xs m → sep m → P (m + 1) x j → More sep P i (xs ++ x ∷ []) j
  more_more sep [] i m j x s w p = (j, subst sep (sym s) w, subst (λ z. P (z + 1) x j) (sym s) p, refl)
  more_more sep (y ∷ ys) i m j x (n, a, b, rest) w p = (n, a, b, more_more sep ys n m j x rest w p)

  pub separated_one : (sep : ℕ → Type 0) (i j : ℕ) (x : A) → P i x j → Separated sep P i (x ∷ []) j
  separated_one sep i j x p = (j, p, refl)

  pub separated_more : (sep : ℕ → Type 0) (xs : List A) (i m j : ℕ) (x : A) → Separated sep P i xs m → sep m → P (m + 1) x j → Separated sep P i (xs ++ x ∷ []) j
  separated_more sep [] i m j x s w p = absurd s
  separated_more sep (y ∷ ys) i m j x (n, q, rest) w p = (n, q, more_more sep ys n m j x rest w p)

pub highest_more : {A : Type 0} (h : A → ℕ) (xs : List A) (x : A) → highest h (xs ++ x ∷ []) ≡ max (highest h xs) (h x)
highest_more h [] x = omega arith
highest_more h (y ∷ ys) x = omega (arith, highest_more h ys x)
