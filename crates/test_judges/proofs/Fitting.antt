-- Values that have the lengths of their signals, by the test and by the definition.
use Rattle.std.proofs.Common.{◌≡◌, ℕ, suc, ◌^◌, ◌&&◌, Bool, true, false, nat_lt, List, [], ◌∷◌, length, refl, ap}
use Rattle.std.proofs.lemmas.Bool.{ltb-true, lt-ltb}
use Rattle.vlog_tree_runs.specs.declared.flat.Signal.{Signal}
use Rattle.test_judges.specs.Values.{AreValues, all_fit}
use Rattle.test_judges.proofs.Deciding.{and_left, and_right, and_both}

still_false : (b x : Bool) → false ≡ x → false ≡ (b && x)
still_false true x h = h
still_false false x h = refl

pub other_length : (gs : List Signal) (vs : List ℕ) → (length gs ≡ length vs → ⊥) → false ≡ all_fit gs vs
other_length [] [] h = absurd (h refl)
other_length [] (v ∷ vs) h = refl
other_length (g ∷ gs) [] h = refl
other_length (g ∷ gs) (v ∷ vs) h = still_false (nat_lt v (2 ^ g.width)) (all_fit gs vs) (other_length gs vs (λ same. h (ap suc same)))

pub fit_values : (gs : List Signal) (vs : List ℕ) → all_fit gs vs ≡ true → AreValues gs vs
fit_values [] [] h = tt
fit_values [] (v ∷ vs) h = let z : false ≡ true = h in cc
fit_values (g ∷ gs) [] h = let z : false ≡ true = h in cc
fit_values (g ∷ gs) (v ∷ vs) h = (ltb-true v (2 ^ g.width) (and_left (nat_lt v (2 ^ g.width)) (all_fit gs vs) h), fit_values gs vs (and_right (nat_lt v (2 ^ g.width)) (all_fit gs vs) h))

pub values_fit : (gs : List Signal) (vs : List ℕ) → AreValues gs vs → all_fit gs vs ≡ true
values_fit [] [] h = refl
values_fit [] (v ∷ vs) h = absurd h
values_fit (g ∷ gs) [] h = absurd h
values_fit (g ∷ gs) (v ∷ vs) h = and_both (nat_lt v (2 ^ g.width)) (all_fit gs vs) (lt-ltb v (2 ^ g.width) h.0) (values_fit gs vs h.1)
