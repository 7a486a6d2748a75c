-- The tests say of values what the definitions say of their cycle.
use Rattle.std.proofs.Common.{◌≡◌, ◌≢◌, ℕ, ◌^◌, ◌<◌, max, ◌⊎◌, inl, inr, Bool, true, false, not, ◌&&◌, ◌||◌, List, [], ◌∷◌, map, arith, refl, sym, ap, ◌∙◌, subst}
use Rattle.std.specs.Prelude.{min, bit_and, bit_or}
use Rattle.std.specs.Int.{bit_at}
use Rattle.std.specs.List.{list_all}
use Rattle.std.proofs.lemmas.Bool.{eq-eqb, eqb-true}
use Rattle.std.proofs.lemmas.Bool.Decides.{eqb_tells}
use Rattle.std.proofs.lemmas.Nat.Bits.{bit_at_and, bit_at_or, bit_at-lt, same_from_bits}
use Rattle.vlog_tree.specs.declared.stmt.Lval.{Lval}
use Rattle.vlog_tree_runs.specs.declared.flat.Signal.{Signal}
use Rattle.vlog_tree_runs.specs.declared.flat.TopPort.{TopPort}
use Rattle.vlog_tree_runs.specs.Places.{Cycle, Among}
use Rattle.elab_step_laws.specs.Laws.{AreFit}
use Rattle.elab_step_nets.specs.Solving.{AreDistinct}
use Rattle.elab_step_nets.proofs.Fitting.{among_names}
use Rattle.test_judges.specs.Values.{AreValues, held}
use Rattle.test_judges.specs.Numbers.{same_within}
use Rattle.test_judges.specs.Judging.{each_same, only_driven, each_driven, keeps_rest, each_keeps}
use Rattle.test_judges.proofs.Holding.{held_first, held_later}

-- ---- tests

pub differ : {b : Bool} → b ≡ true → b ≡ false → ⊥
differ h e = let r : true ≡ false = sym h ∙ e in cc

pub and_left : (p q : Bool) → (p && q) ≡ true → p ≡ true
and_left true q h = refl
and_left false q h = h

pub and_right : (p q : Bool) → (p && q) ≡ true → q ≡ true
and_right true q h = h
and_right false q h = let z : false ≡ true = h in cc

pub and_both : (p q : Bool) → p ≡ true → q ≡ true → (p && q) ≡ true
and_both true q h k = k
and_both false q h k = h

pub or_cases : (p q : Bool) → (p || q) ≡ true → (p ≡ true) ⊎ (q ≡ true)
or_cases true q h = inl refl
or_cases false q h = inr h

pub or_second : (p q : Bool) → q ≡ true → (p || q) ≡ true
or_second true q h = refl
or_second false q h = h

pub or_first : (p q : Bool) → p ≡ true → (p || q) ≡ true
or_first true q h = refl
or_first false q h = let z : false ≡ true = h in cc

pub not_false : (p : Bool) → not p ≡ true → p ≡ false
not_false true h = let z : false ≡ true = h in cc
not_false false h = refl

pub false_not : (p : Bool) → p ≡ false → not p ≡ true
false_not true h = let z : true ≡ false = h in cc
false_not false h = refl

pub all_are : {X : Type 0} (test : X → Bool) (xs : List X) → list_all test xs ≡ true → (x : X) → Among xs x → test x ≡ true
all_are test [] h x m = absurd m
all_are test (y ∷ xs) h x (inl e) = sym (ap test e) ∙ and_left (test y) (list_all test xs) h
all_are test (y ∷ xs) h x (inr m) = all_are test xs (and_right (test y) (list_all test xs) h) x m

pub are_all : {X : Type 0} (test : X → Bool) (xs : List X) → ((x : X) → Among xs x → test x ≡ true) → list_all test xs ≡ true
are_all test [] h = refl
are_all test (y ∷ xs) h = and_both (test y) (list_all test xs) (h y (inl refl)) (are_all test xs (λ x m. h x (inr m)))

-- ---- bits

pub one_or : (m b : ℕ) → (bit_at m b ≡ 1) ⊎ (bit_at m b ≡ 0)
one_or m b = by (bit_at m b) (bit_at-lt m b)
  where
    by : (n : ℕ) → n < 2 → (n ≡ 1) ⊎ (n ≡ 0)
    by n lt = elim (eqb_tells n 1) [ inl e ↦ inl e.1 | inr e ↦ (let z : n ≢ 1 = e.1 in inr (omega arith)) ]

min_one : (x n : ℕ) → x < 2 → n ≡ 1 → min x n ≡ x
min_one x n l h = omega arith

min_none : (x n : ℕ) → n ≡ 0 → min x n ≡ 0
min_none x n h = omega arith

max_one : (x n : ℕ) → x < 2 → n ≡ 1 → max x n ≡ 1
max_one x n l h = omega arith

max_none : (x n : ℕ) → n ≡ 0 → max x n ≡ x
max_none x n h = omega arith

pub under : (x y m b : ℕ) → bit_and x m ≡ bit_and y m → bit_at m b ≡ 1 → bit_at x b ≡ bit_at y b
under x y m b h e =
    sym (min_one (bit_at x b) (bit_at m b) (bit_at-lt x b) e) ∙ sym (bit_at_and x m b) ∙ ap (λ z. bit_at z b) h ∙ bit_at_and y m b ∙ min_one (bit_at y b) (bit_at m b) (bit_at-lt y b) e

same_under : (x y m : ℕ) → ((b : ℕ) → bit_at m b ≡ 1 → bit_at x b ≡ bit_at y b) → bit_and x m ≡ bit_and y m
same_under x y m h = same_from_bits (bit_and x m) (bit_and y m) (λ b. bit_at_and x m b ∙ at b (one_or m b) ∙ sym (bit_at_and y m b))
  where
    at : (b : ℕ) → (bit_at m b ≡ 1) ⊎ (bit_at m b ≡ 0) → min (bit_at x b) (bit_at m b) ≡ min (bit_at y b) (bit_at m b)
    at b (inl e) = ap (λ z. min z (bit_at m b)) (h b e)
    at b (inr e) = min_none (bit_at x b) (bit_at m b) e ∙ sym (min_none (bit_at y b) (bit_at m b) e)

pub beside : (x y m b : ℕ) → bit_or x m ≡ bit_or y m → bit_at m b ≡ 0 → bit_at x b ≡ bit_at y b
beside x y m b h e =
    sym (max_none (bit_at x b) (bit_at m b) e) ∙ sym (bit_at_or x m b) ∙ ap (λ z. bit_at z b) h ∙ bit_at_or y m b ∙ max_none (bit_at y b) (bit_at m b) e

pub same_beside : (x y m : ℕ) → ((b : ℕ) → bit_at m b ≡ 0 → bit_at x b ≡ bit_at y b) → bit_or x m ≡ bit_or y m
same_beside x y m h = same_from_bits (bit_or x m) (bit_or y m) (λ b. bit_at_or x m b ∙ at b (one_or m b) ∙ sym (bit_at_or y m b))
  where
    at : (b : ℕ) → (bit_at m b ≡ 1) ⊎ (bit_at m b ≡ 0) → max (bit_at x b) (bit_at m b) ≡ max (bit_at y b) (bit_at m b)
    at b (inl e) = max_one (bit_at x b) (bit_at m b) (bit_at-lt x b) e ∙ sym (max_one (bit_at y b) (bit_at m b) (bit_at-lt y b) e)
    at b (inr e) = ap (λ z. max z (bit_at m b)) (h b e)

pub covered : (x m : ℕ) → ((b : ℕ) → bit_at m b ≡ 0 → bit_at x b ≡ 0) → bit_and x m ≡ x
covered x m h = same_from_bits (bit_and x m) x (λ b. bit_at_and x m b ∙ at b (one_or m b))
  where
    at : (b : ℕ) → (bit_at m b ≡ 1) ⊎ (bit_at m b ≡ 0) → min (bit_at x b) (bit_at m b) ≡ bit_at x b
    at b (inl e) = min_one (bit_at x b) (bit_at m b) (bit_at-lt x b) e
    at b (inr e) = min_none (bit_at x b) (bit_at m b) e ∙ sym (h b e)

pub uncovered : (x m b : ℕ) → bit_and x m ≡ x → bit_at m b ≡ 0 → bit_at x b ≡ 0
uncovered x m b h e = ap (λ z. bit_at z b) (sym h) ∙ bit_at_and x m b ∙ min_none (bit_at x b) (bit_at m b) e

-- ---- a cycle that has values

abbrev pub Has : Cycle → List Signal → List ℕ → Type 0
Has c [] vs = Unit {0}
Has c (g ∷ gs) [] = ⊥
Has c (g ∷ gs) (v ∷ vs) = (c g.name ≡ v) × Has c gs vs

has_as : (c d : Cycle) (gs : List Signal) (vs : List ℕ) → ((g : Signal) → Among gs g → d g.name ≡ c g.name) → Has c gs vs → Has d gs vs
has_as c d [] vs h k = tt
has_as c d (g ∷ gs) [] h k = absurd k
has_as c d (g ∷ gs) (v ∷ vs) h k = (h g (inl refl) ∙ k.0, has_as c d gs vs (λ z m. h z (inr m)) k.1)

pub has_held : (gs : List Signal) (vs : List ℕ) → AreDistinct (map (λ (h : Signal). h.name) gs) → AreValues gs vs → Has (held gs vs) gs vs
has_held [] vs d k = tt
has_held (g ∷ gs) [] d k = absurd k
has_held (g ∷ gs) (v ∷ vs) d k = (
  held_first g gs v vs,
  has_as (held gs vs) (held (g ∷ gs) (v ∷ vs)) gs vs
      (λ z m. held_later g gs v vs z.name (λ e. d.0 (subst (λ x. Among (map (λ (h : Signal). h.name) gs) x) (sym e) (among_names gs z m)))) (has_held gs vs d.1 k.1),
)

pub has_fits : (c : Cycle) (gs : List Signal) (vs : List ℕ) → Has c gs vs → AreValues gs vs → AreFit gs c
has_fits c [] vs h k g m = absurd m
has_fits c (z ∷ gs) [] h k g m = absurd h
has_fits c (z ∷ gs) (v ∷ vs) h k g (inl e) = subst (λ (y : Signal). c y.name < 2 ^ y.width) e (subst (λ n. n < 2 ^ z.width) (sym h.0) k.0)
has_fits c (z ∷ gs) (v ∷ vs) h k g (inr m) = has_fits c gs vs h.1 k.1 g m

module _ (mask : Signal → ℕ) (d c : Cycle) where
  pub each_bits : (gs : List Signal) (vs : List ℕ) → Has c gs vs → each_same d (map mask gs) gs vs ≡ true → (g : Signal) → Among gs g → (b : ℕ) → bit_at (mask g) b ≡ 1 → bit_at (d g.name) b ≡ bit_at (c g.name) b
  each_bits [] vs h t g m b e = absurd m
  each_bits (z ∷ gs) [] h t g m b e = absurd h
  each_bits (z ∷ gs) (v ∷ vs) h t g (inl i) b e =
      let P : Signal → Type 0 = λ y. bit_at (mask y) b ≡ 1 → bit_at (d y.name) b ≡ bit_at (c y.name) b in
      subst P i (λ k. under (d z.name) v (mask z) b (eqb-true (bit_and (d z.name) (mask z)) (bit_and v (mask z)) (and_left (same_within (mask z) (d z.name) v) (each_same d (map mask gs) gs vs) t)) k
      ∙ ap (λ n. bit_at n b) (sym h.0)) e
  each_bits (z ∷ gs) (v ∷ vs) h t g (inr m) b e = each_bits gs vs h.1 (and_right (same_within (mask z) (d z.name) v) (each_same d (map mask gs) gs vs) t) g m b e

  pub bits_each : (gs : List Signal) (vs : List ℕ) → Has c gs vs → ((g : Signal) → Among gs g → (b : ℕ) → bit_at (mask g) b ≡ 1 → bit_at (d g.name) b ≡ bit_at (c g.name) b) → each_same d (map mask gs) gs vs ≡ true
  bits_each [] vs h k = refl
  bits_each (z ∷ gs) [] h k = absurd h
  bits_each (z ∷ gs) (v ∷ vs) h k =
      and_both (same_within (mask z) (d z.name) v) (each_same d (map mask gs) gs vs)
      (eq-eqb (bit_and (d z.name) (mask z)) (bit_and v (mask z)) (same_under (d z.name) v (mask z) (λ b e. k z (inl refl) b e ∙ ap (λ n. bit_at n b) h.0)))
      (bits_each gs vs h.1 (λ g m. k g (inr m)))

module _ (ps : List TopPort) (nets clocked : List Lval) (c : Cycle) where
  pub driven_each : (gs : List Signal) (vs : List ℕ) → Has c gs vs → each_driven ps nets clocked gs vs ≡ true → (g : Signal) → Among gs g → only_driven ps nets clocked g (c g.name) ≡ true
  driven_each [] vs h t g m = absurd m
  driven_each (z ∷ gs) [] h t g m = absurd h
  driven_each (z ∷ gs) (v ∷ vs) h t g (inl i) =
      let P : Signal → Type 0 = λ y. only_driven ps nets clocked y (c y.name) ≡ true in
      subst P i (ap (only_driven ps nets clocked z) h.0 ∙ and_left (only_driven ps nets clocked z v) (each_driven ps nets clocked gs vs) t)
  driven_each (z ∷ gs) (v ∷ vs) h t g (inr m) = driven_each gs vs h.1 (and_right (only_driven ps nets clocked z v) (each_driven ps nets clocked gs vs) t) g m

  pub each_is_driven : (gs : List Signal) (vs : List ℕ) → Has c gs vs → ((g : Signal) → Among gs g → only_driven ps nets clocked g (c g.name) ≡ true) → each_driven ps nets clocked gs vs ≡ true
  each_is_driven [] vs h k = refl
  each_is_driven (z ∷ gs) [] h k = absurd h
  each_is_driven (z ∷ gs) (v ∷ vs) h k =
      and_both (only_driven ps nets clocked z v) (each_driven ps nets clocked gs vs) (ap (only_driven ps nets clocked z) (sym h.0) ∙ k z (inl refl)) (each_is_driven gs vs h.1 (λ g m. k g (inr m)))

module _ (clocked : List Lval) (c d : Cycle) where
  pub keeps_each : (gs : List Signal) (vs ws : List ℕ) → Has c gs vs → Has d gs ws → each_keeps clocked gs vs ws ≡ true → (g : Signal) → Among gs g → keeps_rest clocked g (c g.name) (d g.name) ≡ true
  keeps_each [] vs ws h k t g m = absurd m
  keeps_each (z ∷ gs) [] ws h k t g m = absurd h
  keeps_each (z ∷ gs) (v ∷ vs) [] h k t g m = absurd k
  keeps_each (z ∷ gs) (v ∷ vs) (w ∷ ws) h k t g (inl i) =
      let P : Signal → Type 0 = λ y. keeps_rest clocked y (c y.name) (d y.name) ≡ true in
      subst P i ((λ r. keeps_rest clocked z (h.0 r) (k.0 r)) ∙ and_left (keeps_rest clocked z v w) (each_keeps clocked gs vs ws) t)
  keeps_each (z ∷ gs) (v ∷ vs) (w ∷ ws) h k t g (inr m) = keeps_each gs vs ws h.1 k.1 (and_right (keeps_rest clocked z v w) (each_keeps clocked gs vs ws) t) g m

  pub each_is_kept : (gs : List Signal) (vs ws : List ℕ) → Has c gs vs → Has d gs ws → ((g : Signal) → Among gs g → keeps_rest clocked g (c g.name) (d g.name) ≡ true) → each_keeps clocked gs vs ws ≡ true
  each_is_kept [] vs ws h k t = refl
  each_is_kept (z ∷ gs) [] ws h k t = absurd h
  each_is_kept (z ∷ gs) (v ∷ vs) [] h k t = absurd k
  each_is_kept (z ∷ gs) (v ∷ vs) (w ∷ ws) h k t =
      and_both (keeps_rest clocked z v w) (each_keeps clocked gs vs ws) ((λ r. keeps_rest clocked z (sym h.0 r) (sym k.0 r)) ∙ t z (inl refl)) (each_is_kept gs vs ws h.1 k.1 (λ g m. t g (inr m)))
