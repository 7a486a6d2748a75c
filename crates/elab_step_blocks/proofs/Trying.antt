-- The places of an index that were tried.
use Rattle.std.proofs.Common.{◌≡◌, ℕ, ◌-◌, ◌^◌, ◌<◌, ◌≤◌, Bool, true, false, List, refl, sym, ap, ◌∙◌, ⊎_elim, ◌⊎◌, inl, inr, arith, ℤ, pos, ◌<ℤ◌, ◌≤ℤ◌, ◌-ℤ◌, ◌+ℤ◌}
use Rattle.std.specs.Prelude.{nat_eq, int_lt, if◌then◌else◌}
use Rattle.std.proofs.lemmas.Int.{ints}
use Rattle.word_dag.specs.declared.node.Node.{Node}
use Rattle.word_dag.specs.Nodes.{Naming}
use Rattle.vlog_tree.specs.Value.{integer}
use Rattle.vlog_tree_values.proofs.Numbers.{bool_cases}
use Rattle.elab_step_expr.specs.Indexed.{is_same}
use Rattle.elab_step_expr.specs.Nodes.{Makes}
use Rattle.elab_step_expr.proofs.Codes.{same_int, int_same}
use Rattle.elab_step_expr.proofs.Kept.{made_same}

less_true : (i j : ℤ) → int_lt i j ≡ true → i <ℤ j
less_true i j h = grind (arith, ints)

less_false : (i j : ℤ) → int_lt i j ≡ false → j ≤ℤ i
less_false i j h = grind (arith, ints)

less_is : (i j : ℤ) → i <ℤ j → int_lt i j ≡ true
less_is i j h = grind (arith, ints)

pub iff : (p q : Bool) → (p ≡ true → q ≡ true) → (q ≡ true → p ≡ true) → p ≡ q
iff true q f g = sym (f refl)
iff false true f g = g refl
iff false false f g = refl

apart_less : (j f d b : ℤ) → b ≡ (d +ℤ pos 1) → is_same j (f +ℤ d) ≡ false → (j -ℤ f) <ℤ b → (j -ℤ f) <ℤ d
apart_less j f d b bn h lt =
    elim (le_or (j -ℤ f) d (omega (arith, ints, lt, bn))) [
      | inl p ↦ p
      | inr p ↦ absurd (clash (omega (arith, ints, p)))
    ]
  where
    clash : j ≡ (f +ℤ d) → ⊥
    clash e = let t : is_same j (f +ℤ d) ≡ true = ap (λ z. is_same j z) (sym e) ∙ int_same j in cc

    le_or : (i k : ℤ) → i ≤ℤ k → (i <ℤ k) ⊎ (i ≡ k)
    le_or i k le = grind (arith, ints)

-- what a place makes, if it is below this one
abbrev pub tried : (ℤ → ℕ) → ℕ → ℤ → ℤ → ℕ
tried g z i bound = if int_lt i bound then g i else z

module _ (g : ℤ → ℕ) (z : ℕ) where
  pub tried_none : (i : ℤ) (w : ℕ) → 1 ≤ w → ((i +ℤ pos w) ≤ℤ pos 0 → z ≡ g i) → z ≡ tried g z i (pos 0 -ℤ pos (w - 1))
  tried_none i w some gone =
      ⊎_elim
      (λ (h : int_lt i (pos 0 -ℤ pos (w - 1)) ≡ true).
      let lt : i <ℤ (pos 0 -ℤ pos (w - 1)) = less_true i (pos 0 -ℤ pos (w - 1)) h in
      gone (omega (arith, ints, lt)) ∙ sym (ap (λ t. if t then g i else z) h))
      (λ (h : int_lt i (pos 0 -ℤ pos (w - 1)) ≡ false). sym (ap (λ t. if t then g i else z) h))
      (bool_cases (int_lt i (pos 0 -ℤ pos (w - 1))))

  pub tried_all : (i : ℤ) (n : ℕ) → (pos n ≤ℤ i → z ≡ g i) → tried g z i (pos n) ≡ g i
  tried_all i n gone =
      ⊎_elim
      (λ (h : int_lt i (pos n) ≡ true). ap (λ t. if t then g i else z) h)
      (λ (h : int_lt i (pos n) ≡ false). ap (λ t. if t then g i else z) h ∙ gone (less_false i (pos n) h))
      (bool_cases (int_lt i (pos n)))

  pub tried_next : (j f d b : ℤ) → b ≡ (d +ℤ pos 1) → (if is_same j (f +ℤ d) then g d else tried g z (j -ℤ f) d) ≡ tried g z (j -ℤ f) b
  tried_next j f d b bn =
      ⊎_elim
      (λ (h : is_same j (f +ℤ d) ≡ true).
      let e = same_int j (f +ℤ d) h in
      let at : j -ℤ f ≡ d = omega (arith, ints, e) in
      let below : int_lt (j -ℤ f) b ≡ true = less_is (j -ℤ f) b (omega (arith, ints, at, bn)) in
      ap (λ t. if t then g d else tried g z (j -ℤ f) d) h ∙ ap g (sym at) ∙ sym (ap (λ t. if t then g (j -ℤ f) else z) below))
      (λ (h : is_same j (f +ℤ d) ≡ false).
      let other : int_lt (j -ℤ f) d ≡ int_lt (j -ℤ f) b = iff (int_lt (j -ℤ f) d) (int_lt (j -ℤ f) b)
      (λ t. let lt = less_true (j -ℤ f) d t in less_is (j -ℤ f) b (omega (arith, ints, lt, bn)))
      (λ t. let lt = less_true (j -ℤ f) b t in less_is (j -ℤ f) d (apart_less j f d b bn h lt)) in
      ap (λ t. if t then g d else tried g z (j -ℤ f) d) h ∙ ap (λ t. if t then g (j -ℤ f) else z) other)
      (bool_cases (is_same j (f +ℤ d)))

-- a place by the number of the words that stand for it
module _ (new : List Node) (r w : ℕ) (s : Bool) (n : ℕ) (index : Naming → ℕ) (g : Naming → ℤ → ℕ) (other : Naming → ℕ) (small : (e : Naming) → index e < 2 ^ n) where
  pub coded : (k : ℕ) (D P d p : ℤ) → Makes new r w (λ e. if nat_eq (index e) k then g e D else other e) → ((x : ℕ) → x < 2 ^ n → nat_eq x k ≡ is_same (integer s n x) P) → D ≡ d → P ≡ p →
      Makes new r w (λ e. if is_same (integer s n (index e)) p then g e d else other e)
  coded k D P d p m h dd pp = made_same new r w _ _ m
      (λ e. ap (λ t. if t then g e D else other e) (h (index e) (small e)) ∙ (λ i. if is_same (integer s n (index e)) (pp i) then g e (dd i) else other e))

  pub uncoded : (P d p : ℤ) → Makes new r w (λ e. other e) → ((x : ℕ) → x < 2 ^ n → is_same (integer s n x) P ≡ false) → P ≡ p →
      Makes new r w (λ e. if is_same (integer s n (index e)) p then g e d else other e)
  uncoded P d p m h pp = made_same new r w _ _ m
      (λ e. sym (ap (λ q. if is_same (integer s n (index e)) q then g e d else other e) (sym pp) ∙ ap (λ t. if t then g e d else other e) (h (index e) (small e))))
