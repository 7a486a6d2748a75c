-- Nodes that were left lead into out cycle.
use Rattle.std.proofs.Common.{ℕ, ◌≡◌, ◌<◌, List, [], ◌∷◌, ◌++◌, length, length-drop, take, drop, Option, Some, None, inr, ⊎_elim, refl, sym, ap, subst, ◌∙◌, arith}
use Rattle.std.specs.List.{slice_get}
use Rattle.std.proofs.lemmas.List.{take-append-drop}
use Rattle.std.proofs.lemmas.Option.{slice_get_within}
use Rattle.elab_flat_graphs.specs.Walks.{targets_of, walk_end, IsCycle}
use Rattle.elab_flat_graphs.specs.Search.{Has, IsSorted}
use Rattle.elab_flat_graphs.proofs.Closing.{walk-append}

module _ (g : List (List ℕ)) where
  nowhere : (walk : List ℕ) → walk_end g None walk ≡ None
  nowhere [] = refl
  nowhere (i ∷ walk) = nowhere walk

  -- an edge of a node that was left leads to one that was
  pub stays : (xs : List ℕ) → IsSorted g xs → (x i t : ℕ) → Has xs x → slice_get (targets_of g x) i ≡ Some t → Has xs t
  stays [] s x i t h is = absurd h
  stays (y ∷ ys) s x i t h is =
      ⊎_elim (λ e. inr (s.1 i t (subst (λ k. i < length (targets_of g k)) (sym e) (slice_get_within (targets_of g x) i t is)) (ap (λ k. slice_get (targets_of g k) i) e ∙ is)))
      (λ m. inr (stays ys s.2 x i t m is)) h

  by_step : (xs : List ℕ) → IsSorted g xs → (x y i : ℕ) (walk : List ℕ) → Has xs x → ((t : ℕ) → Has xs t → walk_end g (Some t) walk ≡ Some y → Has xs y) →
      (o : Option ℕ) → slice_get (targets_of g x) i ≡ o → walk_end g o walk ≡ Some y → Has xs y
  by_step xs s x y i walk h rest None is e = let z : None ≡ Some y = sym (nowhere walk) ∙ e in cc
  by_step xs s x y i walk h rest (Some t) is e = rest t (stays xs s x i t h is) e

  -- and so does a walk
  pub ends_there : (xs : List ℕ) → IsSorted g xs → (y : ℕ) (walk : List ℕ) (x : ℕ) → Has xs x → walk_end g (Some x) walk ≡ Some y → Has xs y
  ends_there xs s y [] x h e = let z : x ≡ y = cc in subst (Has xs) z h
  ends_there xs s y (i ∷ walk) x h e = by_step xs s x y i walk h (λ t m k. ends_there xs s y walk t m k) (slice_get (targets_of g x) i) refl e

  first_step : (xs : List ℕ) → IsSorted g xs → (x i : ℕ) (walk : List ℕ) → (Has xs x → ⊥) → ((t : ℕ) → slice_get (targets_of g x) i ≡ Some t → Has xs t) →
      (o : Option ℕ) → slice_get (targets_of g x) i ≡ o → walk_end g o walk ≡ Some x → ⊥
  first_step xs s x i walk out into None is e = let z : None ≡ Some x = sym (nowhere walk) ∙ e in cc
  first_step xs s x i walk out into (Some t) is e = out (ends_there xs s x walk t (into t is) e)

  pub no_round : (xs : List ℕ) → IsSorted g xs → (x i : ℕ) (walk : List ℕ) → Has xs x → walk_end g (Some x) (i ∷ walk) ≡ Some x → ⊥
  no_round [] s x i walk h e = h
  no_round (y ∷ ys) s x i walk h e =
      ⊎_elim (λ same. first_step ys s.2 x i walk (subst (λ k. Has ys k → ⊥) same s.0)
      (λ t is. s.1 i t (subst (λ k. i < length (targets_of g k)) (sym same) (slice_get_within (targets_of g x) i t is)) (ap (λ k. slice_get (targets_of g k) i) same ∙ is))
      (slice_get (targets_of g x) i) refl e)
      (λ m. no_round ys s.2 x i walk m e) h

  some_round : (xs : List ℕ) → IsSorted g xs → (x : ℕ) (round : List ℕ) → 0 < length round → Has xs x → walk_end g (Some x) round ≡ Some x → ⊥
  some_round xs s x [] some h e = absurd (omega arith)
  some_round xs s x (i ∷ round) some h e = no_round xs s x i round h e

  pub no_cycle : (xs : List ℕ) → IsSorted g xs → (start : ℕ) → Has xs start → (walk : List ℕ) (back : ℕ) → IsCycle g start walk back → ⊥
  no_cycle xs s start h walk back c =
      let round : List ℕ = drop back walk in
      let long : 0 < length round = omega (arith, length-drop back walk, c.some) in
      let parts : take back walk ++ round ≡ walk = take-append-drop back walk in
      let again : walk_end g (Some c.node) round ≡ Some c.node =
      ap (λ o. walk_end g o round) (sym c.reached) ∙ (sym (walk-append g (Some start) (take back walk) round) ∙ (ap (walk_end g (Some start)) parts ∙ c.again)) in
      some_round xs s c.node round long (ends_there xs s c.node (take back walk) start h c.reached) again
