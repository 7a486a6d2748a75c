-- Truth values and bits.
use Rattle.std.proofs.Common.{◌≡◌, ◌≢◌, ℕ, zero, suc, ◌≤◌, ◌<◌, ◌/◌, ◌%◌, ◌-◌, ◌^◌, min, max, ◌⊎◌, ◌↔◌, ◌||◌, ◌&&◌, inl, inr, Bool, true, arith, sym, ap, ◌∙◌}
use Rattle.std.specs.Prelude.{bit_or, bit_and, nat_eq}
use Rattle.std.specs.Int.{bit_at, bit_not, w64}
use Rattle.std.proofs.lemmas.Bool.{or_cases, or_left, or_right, eq-eqb, ne_eqb, cases_eq, not-true, not_from_false}
use Rattle.std.proofs.lemmas.Nat.Bits.{bit_at_or, bit_at-lt, bit_at-zero, bit_at_lowest, bit_at-suc, bit_at_and, bit_at_not}
use Rattle.elab_step_flow.specs.Sets.{is_open}

pub or_is : (a b : Bool) → ((a || b) ≡ true) ↔ ((a ≡ true) ⊎ (b ≡ true))
or_is a b = (or_cases a b, λ h. elim h [ inl f ↦ or_left a b f | inr f ↦ or_right a b f ])

pub or_bits : (x y b : ℕ) → (bit_at (bit_or x y) b ≡ 1) ↔ ((bit_at x b ≡ 1) ⊎ (bit_at y b ≡ 1))
or_bits x y b = (
  λ h. there (bit_at x b) (bit_at y b) (bit_at-lt x b) (bit_at-lt y b) (sym (bit_at_or x y b) ∙ h),
  λ h. bit_at_or x y b ∙ back (bit_at x b) (bit_at y b) (bit_at-lt x b) (bit_at-lt y b) h,
)
  where
    there : (m n : ℕ) → m < 2 → n < 2 → max m n ≡ 1 → (m ≡ 1) ⊎ (n ≡ 1)
    there m n f g h = elim (cases_eq m 1) [ inl e ↦ inl e | inr e ↦ (let z : m ≢ 1 = e in inr (omega arith)) ]

    back : (m n : ℕ) → m < 2 → n < 2 → (m ≡ 1) ⊎ (n ≡ 1) → max m n ≡ 1
    back m n f g (inl h) = omega arith
    back m n f g (inr h) = omega arith

-- a word with a bit is not 0
pub open_from : (n b : ℕ) → bit_at n b ≡ 1 → is_open n ≡ true
open_from n b h = not_from_false (nat_eq n 0) (ne_eqb n 0 (λ e. let z : bit_at n b ≡ 0 = ap (λ m. bit_at m b) e ∙ bit_at-zero b in let y : 0 ≡ 1 = sym z ∙ h in absurd (omega arith)))

-- a word that is not 0 has a bit
pub bit_of_open : (n : ℕ) → is_open n ≡ true → (b : ℕ) × (bit_at n b ≡ 1)
bit_of_open n h = found n n (le-refl n) (λ e. let z = sym (not-true (nat_eq n 0) h) ∙ eq-eqb n 0 e in cc)
  where
    le-refl : (m : ℕ) → m ≤ m
    le-refl m = omega arith

    found : (k m : ℕ) → m ≤ k → (m ≡ 0 → ⊥) → (b : ℕ) × (bit_at m b ≡ 1)
    found zero m le ne = absurd (ne (omega arith))
    found (suc k) m le ne = elim (cases_eq (m % 2) 1) [
      | inl e ↦ (0, bit_at_lowest m ∙ e)
      | inr o ↦ (
          let half : m / 2 ≤ k = omega arith in
          let odd : m % 2 ≢ 1 = o in
          let full : m ≢ 0 = ne in
          let r = found k (m / 2) half (λ e. let z : m / 2 ≡ 0 = e in absurd (omega arith)) in
          (suc r.0, bit_at-suc m r.0 ∙ r.1)
          )
    ]

-- a bit that stays while others are cleared
pub without_is : (x y b : ℕ) → y < 2 ^ 64 → b < 64 → (bit_at (bit_and x (bit_not w64 y)) b ≡ 1) ↔ ((bit_at x b ≡ 1) × (bit_at y b ≡ 1 → ⊥))
without_is x y b fits lt =
    (λ h. there (bit_at x b) (bit_at y b) (bit_at-lt x b) (bit_at-lt y b) (sym same ∙ h), λ h. same ∙ back (bit_at x b) (bit_at y b) (bit_at-lt y b) h.0 h.1)
  where
    same : bit_at (bit_and x (bit_not w64 y)) b ≡ min (bit_at x b) (1 - bit_at y b)
    same = bit_at_and x (bit_not w64 y) b ∙ ap (min (bit_at x b)) (bit_at_not w64 y b fits lt)

    there : (m n : ℕ) → m < 2 → n < 2 → min m (1 - n) ≡ 1 → (m ≡ 1) × (n ≡ 1 → ⊥)
    there m n f g h = (omega arith, λ e. absurd (omega arith))

    back : (m n : ℕ) → n < 2 → m ≡ 1 → (n ≡ 1 → ⊥) → min m (1 - n) ≡ 1
    back m n g e f = let z : n ≢ 1 = f in let k : n ≡ 0 = omega arith in omega arith

pub without_kept : (x y b : ℕ) → bit_at (bit_and x (bit_not w64 y)) b ≡ 1 → bit_at x b ≡ 1
without_kept x y b h = least (bit_at x b) (bit_at (bit_not w64 y) b) (bit_at-lt x b) (bit_at-lt (bit_not w64 y) b) (sym (bit_at_and x (bit_not w64 y) b) ∙ h)
  where
    least : (m n : ℕ) → m < 2 → n < 2 → min m n ≡ 1 → m ≡ 1
    least m n f g h = omega arith

-- 0 has no bit
pub none_set : (b : ℕ) → bit_at 0 b ≡ 1 → ⊥
none_set b h = let z : bit_at 0 b ≡ 0 = bit_at-zero b in clash (bit_at 0 b) z h
  where
    clash : (n : ℕ) → n ≡ 0 → n ≡ 1 → ⊥
    clash n e f = omega arith
