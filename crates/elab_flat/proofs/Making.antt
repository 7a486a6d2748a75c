-- Lists that loops make.
use Rattle.std.proofs.Common.{ℕ, suc, ◌≡◌, ◌+◌, ◌<◌, ◌≤◌, ◌⊎◌, inl, inr, ⊎_elim, List, [], ◌∷◌, ◌++◌, length, map, drop, drop_of_length-le, append-nil, get_or, add-one, sym, ap, subst, ◌∙◌}
use Rattle.vlog_tree_runs.specs.Places.{Among}
use Rattle.std.proofs.lemmas.List.{append_assoc}
use Rattle.elab_flat_scopes.proofs.Finding.{cut}

-- one more element of what is made of a list
pub next_made : {X Y : Type 0} (g : List X → List Y) (f : X → Y) → ((x : X) (xs : List X) → g (x ∷ xs) ≡ f x ∷ g xs) → (xs : List X) (i : ℕ) (x : X) → i < length xs → x ≡ get_or xs i x →
    (all whole new : List Y) (made : Y) → all ++ g (drop i xs) ≡ whole → made ≡ f x → new ≡ all ++ made ∷ [] → new ++ g (drop (i + 1) xs) ≡ whole
next_made g f step xs i x lt is all whole new made inv same put =
    rw add-one (
    ap (λ n. n ++ g (drop (suc i) xs)) (put ∙ ap (λ m. all ++ m ∷ []) same)
    ∙ (append_assoc all (f x ∷ []) (g (drop (suc i) xs))
    ∙ (ap (λ ys. all ++ ys) (sym (step x (drop (suc i) xs))) ∙ (ap (λ ds. all ++ g ds) (sym (cut xs i x lt is)) ∙ inv)))
    )

-- what a list makes, element after element
pub next_parts : {X Y : Type 0} (g : List X → List Y) (f : X → List Y) → ((x : X) (xs : List X) → g (x ∷ xs) ≡ f x ++ g xs) → (xs : List X) (i : ℕ) (x : X) → i < length xs → x ≡ get_or xs i x →
    (all whole new : List Y) → all ++ g (drop i xs) ≡ whole → new ≡ all ++ f x → new ++ g (drop (i + 1) xs) ≡ whole
next_parts g f step xs i x lt is all whole new inv put =
    rw add-one (
    ap (λ n. n ++ g (drop (suc i) xs)) put
    ∙ (append_assoc all (f x) (g (drop (suc i) xs))
    ∙ (ap (λ ys. all ++ ys) (sym (step x (drop (suc i) xs))) ∙ (ap (λ ds. all ++ g ds) (sym (cut xs i x lt is)) ∙ inv)))
    )

-- what holds of the elements of a list, one after another
module _ {X Y : Type 0} (f : X → Y) (P : Y → Type 0) (xs : List X) where
  -- of those before place i
  abbrev pub HeldTo : ℕ → Type 0
  HeldTo i = (y : Y) → Among (map f xs) y → Among (map f (drop i xs)) y ⊎ P y

  pub held_next : (i : ℕ) (x : X) → i < length xs → x ≡ get_or xs i x → P (f x) → HeldTo i → HeldTo (i + 1)
  held_next i x lt is here held y a =
      ⊎_elim
      (λ b. ⊎_elim (λ e. inr (subst P e here)) (λ m. inl (subst (λ k. Among (map f (drop k xs)) y) (sym (add-one i)) m))
      (subst (λ zs. Among (map f zs) y) (cut xs i x lt is) b)) (λ p. inr p) (held y a)

  pub held_all : (i : ℕ) → length xs ≤ i → HeldTo i → (y : Y) → Among (map f xs) y → P y
  held_all i le held y a = ⊎_elim (λ b. absurd (subst (λ zs. Among (map f zs) y) (drop_of_length-le xs {i = i} le) b)) (λ p. p) (held y a)

-- nothing is left past the end
pub all_made : {X Y : Type 0} (g : List X → List Y) → g [] ≡ [] → (xs : List X) (i : ℕ) → length xs ≤ i → (all whole : List Y) → all ++ g (drop i xs) ≡ whole → all ≡ whole
all_made g none xs i le all whole inv = sym (append-nil all) ∙ (ap (λ ys. all ++ ys) (sym (ap g (drop_of_length-le xs {i = i} le) ∙ none)) ∙ inv)
