-- Parities.
use Rattle.std.proofs.Common.{◌≡◌, ℕ, zero, suc, ◌+◌, ◌-◌, ◌/◌, ◌%◌, ◌^◌, ◌<◌, refl, sym, ap, ◌∙◌, arith}
use Rattle.std.specs.Prelude.{nat_eq, bit_xor, count_ones}
use Rattle.std.proofs.Math.Nat.{mod-lt, div-one, div-eq_of_lt, div-div-eq-div-mul}
use Rattle.std.proofs.lemmas.Nat.{pow-add, ones_le_self}
use Rattle.std.proofs.lemmas.Bool.Decides.{nat_tests}
use lib.Count.{ones_step}
use Rattle.vlog_tree.specs.Value.{bit}

pub odd_bit : (n : ℕ) → n % 2 ≡ bit (nat_eq (n % 2) 1)
odd_bit n = pick (n % 2) (mod-lt n (omega arith))
  where
    pick : (m : ℕ) → m < 2 → m ≡ bit (nat_eq m 1)
    pick zero lt = refl
    pick (suc zero) lt = refl
    pick (suc (suc m)) lt = absurd (omega arith)

pub even_bit : (n : ℕ) → 1 - n % 2 ≡ bit (nat_eq (n % 2) 0)
even_bit n = pick (n % 2) (mod-lt n (omega arith))
  where
    pick : (m : ℕ) → m < 2 → 1 - m ≡ bit (nat_eq m 0)
    pick zero lt = refl
    pick (suc zero) lt = refl
    pick (suc (suc m)) lt = absurd (omega arith)

xor_sum : (m n : ℕ) → m < 2 → n < 2 → bit_xor m n ≡ (m + n) % 2
xor_sum zero zero p q = refl
xor_sum zero (suc zero) p q = refl
xor_sum (suc zero) zero p q = refl
xor_sum (suc zero) (suc zero) p q = refl
xor_sum (suc (suc m)) n p q = absurd (omega arith)
xor_sum zero (suc (suc n)) p q = absurd (omega arith)
xor_sum (suc zero) (suc (suc n)) p q = absurd (omega arith)

pub first_bit : (x : ℕ) → x / 2 ^ 0 % 2 ^ 1 ≡ (count_ones x + count_ones (x / 2 ^ 1)) % 2
first_bit x =
    let s = ones_step x in
    let d : x / 2 ^ 0 ≡ x = div-one x in
    ap (λ n. n % 2) d ∙ (omega (arith, s))

pub next_bit : (c x i : ℕ) → bit_xor ((c + count_ones (x / 2 ^ i)) % 2) (x / 2 ^ i % 2 ^ 1) ≡ (c + count_ones (x / 2 ^ (i + 1))) % 2
next_bit c x i =
    let y = x / 2 ^ i in
    let half : x / 2 ^ (i + 1) ≡ y / 2 = ap (λ n. x / n) (pow-add 2 i 1) ∙ sym (div-div-eq-div-mul x (2 ^ i) 2) in
    let s = ones_step y in
    let sum : bit_xor ((c + count_ones y) % 2) (y % 2) ≡ ((c + count_ones y) % 2 + y % 2) % 2 = xor_sum ((c + count_ones y) % 2) (y % 2) (mod-lt (c + count_ones y) (omega arith)) (mod-lt y (omega arith)) in
    let step : ((c + count_ones y) % 2 + y % 2) % 2 ≡ (c + count_ones (y / 2)) % 2 = omega (arith, s) in
    sum ∙ step ∙ ap (λ n. (c + count_ones n) % 2) (sym half)

pub last_bit : (x w : ℕ) → x < 2 ^ w → (count_ones x + count_ones (x / 2 ^ w)) % 2 ≡ count_ones x % 2
last_bit x w lt = ap (λ n. (count_ones x + count_ones n) % 2) (div-eq_of_lt lt) ∙ zero_ones (count_ones x)
  where
    zero_ones : (n : ℕ) → (n + count_ones 0) % 2 ≡ n % 2
    zero_ones n = omega (arith, ones_le_self 0)

pub ones_test : (n x : ℕ) → x < 2 ^ n → nat_eq (2 ^ n - 1 - x) 0 ≡ nat_eq x (2 ^ n - 1)
ones_test n x lt = grind (arith, nat_tests)
