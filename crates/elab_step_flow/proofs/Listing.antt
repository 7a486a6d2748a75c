-- Elements of lists, one after another.
use Rattle.std.proofs.Common.{◌≡◌, ℕ, zero, suc, ◌+◌, ◌<◌, ◌≤◌, ◌⊎◌, inl, inr, List, [], ◌∷◌, ◌++◌, length, get_or, take, drop, arith, sym, ap, ◌∙◌, subst}
use Rattle.std.proofs.lemmas.List.{take_more}
use Rattle.vlog_tree_runs.specs.Places.{Among}
use Rattle.elab_step_flow.proofs.Marking.{cut, drop_past}

pub among_at : {X : Type 0} (xs : List X) (i : ℕ) (x : X) → i < length xs → x ≡ get_or xs i x → Among xs x
among_at [] i x lt is = absurd (omega arith)
among_at (y ∷ xs) zero x lt is = inl (sym is)
among_at (y ∷ xs) (suc i) x lt is = inr (among_at xs i x (omega arith) is)

-- the elements before a place, and the one there
pub take_next : {X : Type 0} (xs : List X) (k : ℕ) (x : X) → k < length xs → x ≡ get_or xs k x → take k xs ++ x ∷ [] ≡ take (k + 1) xs
take_next xs k x lt is = sym (take_more xs k x lt ∙ ap (λ z. take k xs ++ z ∷ []) (sym is))

module _ {X : Type 0} (xs : List X) (i : ℕ) where
  -- an element from a place on is the one there or stands after it
  pub first_or : (x y : X) → i < length xs → x ≡ get_or xs i x → Among (drop i xs) y → (x ≡ y) ⊎ Among (drop (i + 1) xs) y
  first_or x y lt is h = subst (λ z. Among z y) (cut xs i x lt is) h

  pub none_left : (y : X) → length xs ≤ i → Among (drop i xs) y → ⊥
  none_left y le h = subst (λ z. Among z y) (drop_past xs i le) h
