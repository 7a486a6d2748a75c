-- Bits that are claimed and not set.
use Rattle.std.proofs.Common.{◌≡◌, ◌≢◌, ℕ, ◌+◌, ◌%◌, ◌<◌, ◌⊎◌, inl, inr, List, length, get_or, drop, arith, sym, ap, ◌∙◌, subst}
use Rattle.std.specs.Prelude.{bit_xor, bit_and, min}
use Rattle.std.specs.Int.{bit_at}
use Rattle.std.proofs.lemmas.Bool.Decides.{eqb_tells}
use Rattle.std.proofs.lemmas.Nat.Bits.{bit_at_xor, bit_at_and, bit_at-lt, bit_at-zero}
use Rattle.elab_flat_drivers.specs.declared.claims.Claim.{Claim}
use Rattle.elab_flat_drivers.specs.Claims.{IsClaimed}
use Rattle.elab_flat_drivers.specs.Masks.{IsSet}
use Rattle.elab_flat_drivers.proofs.Marking.{at_place, first_claim}

bit_is : (x y b : ℕ) → bit_at (bit_xor x (bit_and x y)) b ≡ (bit_at x b + min (bit_at x b) (bit_at y b)) % 2
bit_is x y b = bit_at_xor x (bit_and x y) b ∙ ap (λ z. (bit_at x b + z) % 2) (bit_at_and x y b)

-- a bit of x that y hasn't
pub lacking_bit : (x y b : ℕ) → bit_at (bit_xor x (bit_and x y)) b ≡ 1 → (bit_at x b ≡ 1) × (bit_at y b ≡ 0)
lacking_bit x y b h = by_bits (bit_at x b) (bit_at y b) (bit_at-lt x b) (bit_at-lt y b) (sym (bit_is x y b) ∙ h)
  where
    second : (n : ℕ) → n < 2 → (1 + min 1 n) % 2 ≡ 1 → n ≡ 0
    second n g h = elim (eqb_tells n 0) [ inl e ↦ e.1 | inr e ↦ (let z : n ≢ 0 = e.1 in let w : n ≡ 1 = omega arith in let k : (1 + min 1 1) % 2 ≡ 1 = subst (λ j. (1 + min 1 j) % 2 ≡ 1) w h in absurd (apart k)) ]
      where
        apart : ◌≡◌ {A = ℕ} 0 1 → ⊥
        apart e = cc

    none : (n : ℕ) → (0 + min 0 n) % 2 ≡ 1 → ⊥
    none n h = omega (arith, h)

    by_bits : (m n : ℕ) → m < 2 → n < 2 → (m + min m n) % 2 ≡ 1 → (m ≡ 1) × (n ≡ 0)
    by_bits m n f g h = elim (eqb_tells m 1) [
      | inl e ↦ (e.1, second n g (subst (λ j. (j + min j n) % 2 ≡ 1) e.1 h))
      | inr e ↦ (let z : m ≢ 1 = e.1 in let w : m ≡ 0 = omega arith in absurd (none n (subst (λ j. (j + min j n) % 2 ≡ 1) w h)))
    ]

pub bit_lacking : (x y b : ℕ) → bit_at x b ≡ 1 → bit_at y b ≡ 0 → bit_at (bit_xor x (bit_and x y)) b ≡ 1
bit_lacking x y b f g = bit_is x y b ∙ (λ i. (f i + min (f i) (g i)) % 2)

pub zero_one : (m b : ℕ) → bit_at m b ≡ 0 → bit_at m b ≡ 1 → ⊥
zero_one m b f g = omega (arith, f, g)

-- a claim whose bits are all set is passed
pub passes : (ms : List ℕ) (cs : List Claim) (k : ℕ) (d : Claim) → k < length cs → bit_xor (get_or cs k d).bits (bit_and (get_or cs k d).bits (get_or ms (get_or cs k d).place 0)) ≡ 0 → (i b : ℕ)
    → (IsSet ms i b → ⊥) → IsClaimed (drop k cs) i b → IsClaimed (drop (k + 1) cs) i b
passes ms cs k d lt none i b unset h = after (first_claim (get_or cs k d) (drop (k + 1) cs) i b (subst (λ z. IsClaimed z i b) (at_place cs k d lt) h))
  where
    is_zero : (m : ℕ) → m < 2 → (m ≡ 1 → ⊥) → m ≡ 0
    is_zero m g n = elim (eqb_tells m 1) [ inl e ↦ absurd (n e.1) | inr e ↦ (let z : m ≢ 1 = e.1 in omega arith) ]

    no_bit : (m : ℕ) → m ≡ 0 → bit_at m b ≡ 1 → ⊥
    no_bit m e h = let z : bit_at m b ≡ 0 = ap (λ n. bit_at n b) e ∙ bit_at-zero b in omega (arith, z, h)

    after : (((get_or cs k d).place ≡ i) × (bit_at (get_or cs k d).bits b ≡ 1)) ⊎ IsClaimed (drop (k + 1) cs) i b → IsClaimed (drop (k + 1) cs) i b
    after (inl f) =
        let off : bit_at (get_or ms (get_or cs k d).place 0) b ≡ 0 = is_zero (bit_at (get_or ms (get_or cs k d).place 0) b) (bit_at-lt (get_or ms (get_or cs k d).place 0) b) (λ s. unset (subst (λ z. IsSet ms z b) f.0 s)) in
        absurd (no_bit _ none (bit_lacking (get_or cs k d).bits (get_or ms (get_or cs k d).place 0) b f.1 off))
    after (inr f) = f
