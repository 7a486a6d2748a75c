-- Integers and the words that stand for them.
use Rattle.std.proofs.Common.{◌≡◌, ℕ, ◌-◌, ◌%◌, ◌^◌, ◌<◌, ◌≤◌, Bool, true, false, refl, sym, ap, ◌∙◌, ⊎_elim, ◌⊎◌, inl, inr, arith, ℤ, pos, negsuc, ◌<ℤ◌, ◌≤ℤ◌, ◌-ℤ◌, ◌+ℤ◌}
use Rattle.std.specs.Prelude.{int_lt, if◌then◌else◌}
use Rattle.std.proofs.lemmas.Bool.Decides.{nat_tests}
use Rattle.std.proofs.lemmas.Int.{ints}
use Rattle.word_core.proofs.Numbers.{mask_grows}
use Rattle.vlog_tree.specs.Value.{moved_down}
use Rattle.vlog_tree_values.proofs.Numbers.{bool_cases}
use Rattle.elab_step_expr.specs.Indexed.{is_same}
use Rattle.elab_step_expr.proofs.Moved.{down_gone, up_gone}

pub same_int : (i j : ℤ) → is_same i j ≡ true → i ≡ j
same_int (pos a) (pos b) h = ap pos (grind (arith, nat_tests))
same_int (pos a) (negsuc b) h = cc
same_int (negsuc a) (pos b) h = cc
same_int (negsuc a) (negsuc b) h = ap negsuc (grind (arith, nat_tests))

pub int_same : (i : ℤ) → is_same i i ≡ true
int_same (pos a) = grind (arith, nat_tests)
int_same (negsuc a) = grind (arith, nat_tests)

iff : (p q : Bool) → (p ≡ true → q ≡ true) → (q ≡ true → p ≡ true) → p ≡ q
iff true q f g = sym (f refl)
iff false true f g = g refl
iff false false f g = refl

not_true : (p : Bool) → (p ≡ true → ⊥) → p ≡ false
not_true true f = absurd (f refl)
not_true false f = refl

far : (b : Bool) (n x : ℕ) → n ≤ 64 → x < 2 ^ n → (negsuc (2 ^ 64 - 1) ≤ℤ (if b then negsuc (2 ^ n - 1 - x) else pos x)) × ((if b then negsuc (2 ^ n - 1 - x) else pos x) <ℤ pos (2 ^ 64))
far true n x le lt = let g = mask_grows n 64 le in (omega (arith, ints, g, lt), omega (arith, ints, g, lt))
far false n x le lt = let g = mask_grows n 64 le in (omega (arith, ints, g, lt), omega (arith, ints, g, lt))

-- ---- the positions that were tried

less_true : (i j : ℤ) → int_lt i j ≡ true → i <ℤ j
less_true i j h = grind (arith, ints)

less_false : (i j : ℤ) → int_lt i j ≡ false → j ≤ℤ i
less_false i j h = grind (arith, ints)

less_is : (i j : ℤ) → i <ℤ j → int_lt i j ≡ true
less_is i j h = grind (arith, ints)

apart_less : (j f d b : ℤ) → b ≡ (d +ℤ pos 1) → is_same j (f +ℤ d) ≡ false → (j -ℤ f) <ℤ b → (j -ℤ f) <ℤ d
apart_less j f d b bn h lt =
    elim (le_or (j -ℤ f) d (omega (arith, ints, lt, bn))) [
      | inl p ↦ p
      | inr p ↦ absurd (clash (omega (arith, ints, p)))
    ]
  where
    clash : j ≡ (f +ℤ d) → ⊥
    clash e = let t : is_same j (f +ℤ d) ≡ true = ap (λ z. is_same j z) (sym e) ∙ int_same j in cc

    le_or : (i k : ℤ) → i ≤ℤ k → (i <ℤ k) ⊎ (i ≡ k)
    le_or i k le = grind (arith, ints)

-- the bits at a distance, if it is below this one
abbrev pub tried : ℤ → ℤ → ℕ → ℕ → ℕ
tried i bound x w = if int_lt i bound then moved_down i x % 2 ^ w else 0

pub tried_none : (i : ℤ) (x w : ℕ) → 1 ≤ w → 0 ≡ tried i (pos 0 -ℤ pos (w - 1)) x w
tried_none i x w some =
    ⊎_elim
    (λ (h : int_lt i (pos 0 -ℤ pos (w - 1)) ≡ true).
    let lt : i <ℤ (pos 0 -ℤ pos (w - 1)) = less_true i (pos 0 -ℤ pos (w - 1)) h in
    let le : pos w ≤ℤ (pos 0 -ℤ i) = omega (arith, ints, lt) in
    up_gone i x w some le ∙ sym (ap (λ t. if t then moved_down i x % 2 ^ w else 0) h))
    (λ (h : int_lt i (pos 0 -ℤ pos (w - 1)) ≡ false). sym (ap (λ t. if t then moved_down i x % 2 ^ w else 0) h))
    (bool_cases (int_lt i (pos 0 -ℤ pos (w - 1))))

pub tried_all : (i : ℤ) (x n w : ℕ) → x < 2 ^ n → tried i (pos n) x w ≡ moved_down i x % 2 ^ w
tried_all i x n w lt =
    ⊎_elim
    (λ (h : int_lt i (pos n) ≡ true). ap (λ t. if t then moved_down i x % 2 ^ w else 0) h)
    (λ (h : int_lt i (pos n) ≡ false).
    let le : pos n ≤ℤ i = less_false i (pos n) h in
    ap (λ t. if t then moved_down i x % 2 ^ w else 0) h ∙ down_gone i x n w lt le)
    (bool_cases (int_lt i (pos n)))

pub tried_next : (j f d b : ℤ) (x w : ℕ) → b ≡ (d +ℤ pos 1) → (if is_same j (f +ℤ d) then moved_down d x % 2 ^ w else tried (j -ℤ f) d x w) ≡ tried (j -ℤ f) b x w
tried_next j f d b x w bn =
    ⊎_elim
    (λ (h : is_same j (f +ℤ d) ≡ true).
    let e = same_int j (f +ℤ d) h in
    let at : j -ℤ f ≡ d = omega (arith, ints, e) in
    let below : int_lt (j -ℤ f) b ≡ true = less_is (j -ℤ f) b (omega (arith, ints, at, bn)) in
    ap (λ t. if t then moved_down d x % 2 ^ w else tried (j -ℤ f) d x w) h ∙ ap (λ z. moved_down z x % 2 ^ w) (sym at) ∙ sym (ap (λ t. if t then moved_down (j -ℤ f) x % 2 ^ w else 0) below))
    (λ (h : is_same j (f +ℤ d) ≡ false).
    let other : int_lt (j -ℤ f) d ≡ int_lt (j -ℤ f) b = iff (int_lt (j -ℤ f) d) (int_lt (j -ℤ f) b)
    (λ t. let lt = less_true (j -ℤ f) d t in less_is (j -ℤ f) b (omega (arith, ints, lt, bn)))
    (λ t. let lt = less_true (j -ℤ f) b t in less_is (j -ℤ f) d (apart_less j f d b bn h lt)) in
    ap (λ t. if t then moved_down d x % 2 ^ w else tried (j -ℤ f) d x w) h ∙ ap (λ t. if t then moved_down (j -ℤ f) x % 2 ^ w else 0) other)
    (bool_cases (is_same j (f +ℤ d)))
