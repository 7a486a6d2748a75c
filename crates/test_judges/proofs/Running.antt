-- Rows one after another.
use Rattle.std.proofs.Common.{◌≡◌, ℕ, zero, suc, ◌+◌, ◌<◌, ◌≤◌, ◌⊎◌, inl, inr, ⊎_elim, List, [], ◌∷◌, length, get_or, arith, refl, sym, ap, ◌∙◌, subst}
use Rattle.vlog_tree_runs.specs.declared.flat.Signal.{Signal}
use Rattle.test_judges.specs.Values.{held, cycle_at}

get_any : (rows : List (List ℕ)) (i : ℕ) (d e : List ℕ) → i < length rows → get_or rows i d ≡ get_or rows i e
get_any [] i d e l = absurd (omega arith)
get_any (r ∷ rows) zero d e l = refl
get_any (r ∷ rows) (suc i) d e l = get_any rows i d e (omega arith)

pub row_is : (gs : List Signal) (rows : List (List ℕ)) (i : ℕ) (row vs : List ℕ) → i < length rows → row ≡ get_or rows i row → vs ≡ row → held gs vs ≡ cycle_at gs rows i
row_is gs rows i row vs l e same = ap (held gs) (same ∙ e ∙ get_any rows i row [] l)

-- what holds below a number and at it holds below the next one
pub one_more : (P : ℕ → Type 0) (i : ℕ) → ((t : ℕ) → t < i → P t) → P i → (t : ℕ) → t < i + 1 → P t
one_more P i h k t l = by (last t i l)
  where
    last : (t i : ℕ) → t < i + 1 → (t < i) ⊎ (t ≡ i)
    last t i l = less t i (omega arith)
      where
        less : (t i : ℕ) → t ≤ i → (t < i) ⊎ (t ≡ i)
        less zero zero l = inr refl
        less zero (suc i) l = inl (omega arith)
        less (suc t) zero l = absurd (omega arith)
        less (suc t) (suc i) l = ⊎_elim (λ e. inl (omega (arith, e))) (λ e. inr (ap suc e)) (less t i (omega arith))

    by : (t < i) ⊎ (t ≡ i) → P t
    by (inl e) = h t e
    by (inr e) = subst P (sym e) k

pub step_more : (P : ℕ → Type 0) (i j : ℕ) → i ≡ j + 1 → ((t : ℕ) → t + 1 < i → P t) → P j → (t : ℕ) → t + 1 < i + 1 → P t
step_more P i j e h k t l = one_more P j (λ s m. h s (omega (arith, e, m))) k t (omega (arith, e, l))
