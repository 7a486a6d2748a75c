-- Numbers moved up and down by so many bits.
use Rattle.std.proofs.Common.{◌≡◌, ℕ, suc, ◌+◌, ◌-◌, ◌*◌, ◌/◌, ◌%◌, ◌^◌, ◌<◌, ◌≤◌, min, true, false, sym, ap, ◌∙◌, ⊎_elim, arith, ℤ, pos, negsuc, ◌<ℤ◌, ◌≤ℤ◌, ◌-ℤ◌}
use Rattle.std.specs.Prelude.{nat_le}
use Rattle.std.proofs.Math.Nat.{mod-eq_of_lt, mul-mod_left, div-one}
use Rattle.std.proofs.lemmas.Bool.{leb-true, leb-false}
use Rattle.std.proofs.lemmas.Nat.{pow_pos, div-mul-add, mod-pow-add}
use Rattle.std.proofs.lemmas.Int.{ints}
use Rattle.word_core.proofs.Numbers.{moved_small, mask_grows, shr_whole, shl_gone}
use Rattle.vlog_tree.specs.Value.{moved_down}
use Rattle.vlog_tree_values.proofs.Numbers.{bool_cases}

pub down_kept : (x n d w : ℕ) → x < 2 ^ n → d ≤ n → x / 2 ^ d % 2 ^ (min w (n - d)) ≡ x / 2 ^ d % 2 ^ w
down_kept x n d w lt le =
    ⊎_elim
    (λ (h : nat_le w (n - d) ≡ true).
    let e : min w (n - d) ≡ w = omega (arith, leb-true w (n - d) h) in
    ap (λ k. x / 2 ^ d % 2 ^ k) e)
    (λ (h : nat_le w (n - d) ≡ false).
    let e : min w (n - d) ≡ n - d = omega (arith, leb-false w (n - d) h) in
    let small = moved_small x n d le lt in
    let grows = mask_grows (n - d) w (omega (arith, leb-false w (n - d) h)) in
    ap (λ k. x / 2 ^ d % 2 ^ k) e ∙ mod-eq_of_lt small ∙ sym (mod-eq_of_lt (omega (arith, small, grows))))
    (bool_cases (nat_le w (n - d)))

pub up_kept : (x n d w : ℕ) → x < 2 ^ n → d ≤ w → x / 2 ^ 0 % 2 ^ (min n (w - d)) * 2 ^ d + 0 ≡ x * 2 ^ d % 2 ^ w
up_kept x n d w lt le =
    let whole : (w - d) + d ≡ w = omega arith in
    let plus : x * 2 ^ d ≡ x * 2 ^ d + 0 = omega arith in
    let back : x * 2 ^ d / 2 ^ d ≡ x = ap (λ k. k / 2 ^ d) plus ∙ div-mul-add x (2 ^ d) 0 (pow_pos d) in
    let cut' : x * 2 ^ d % 2 ^ ((w - d) + d) ≡ x % 2 ^ (w - d) * 2 ^ d =
    mod-pow-add (x * 2 ^ d) (w - d) d ∙ ap (λ k. k % 2 ^ (w - d) * 2 ^ d + x * 2 ^ d % 2 ^ d) back ∙ ap (λ k. x % 2 ^ (w - d) * 2 ^ d + k) (mul-mod_left x (2 ^ d)) ∙ (omega arith) in
    let cut : x * 2 ^ d % 2 ^ w ≡ x % 2 ^ (w - d) * 2 ^ d = ap (λ k. x * 2 ^ d % 2 ^ k) (sym whole) ∙ cut' in
    let start : x / 2 ^ 0 % 2 ^ (min n (w - d)) * 2 ^ d + 0 ≡ x % 2 ^ (min n (w - d)) * 2 ^ d = ap (λ k. k % 2 ^ (min n (w - d)) * 2 ^ d + 0) (div-one x) ∙ (omega arith) in
    start ∙ ap (λ k. k * 2 ^ d) (kept (w - d)) ∙ sym cut
  where
    kept : (m : ℕ) → x % 2 ^ (min n m) ≡ x % 2 ^ m
    kept m =
        ⊎_elim
        (λ (h : nat_le m n ≡ true).
        let e : min n m ≡ m = omega (arith, leb-true m n h) in
        ap (λ k. x % 2 ^ k) e)
        (λ (h : nat_le m n ≡ false).
        let e : min n m ≡ n = omega (arith, leb-false m n h) in
        let grows = mask_grows n m (omega (arith, leb-false m n h)) in
        ap (λ k. x % 2 ^ k) e ∙ mod-eq_of_lt lt ∙ sym (mod-eq_of_lt (omega (arith, lt, grows))))
        (bool_cases (nat_le m n))

-- nothing is left of a number moved down by all its bits
pub down_gone : (i : ℤ) (x n w : ℕ) → x < 2 ^ n → pos n ≤ℤ i → 0 ≡ moved_down i x % 2 ^ w
down_gone (pos d) x n w lt le = sym (mod-eq_of_lt (pow_pos w)) ∙ ap (λ k. k % 2 ^ w) (shr_whole x d n lt (omega (arith, ints)))
down_gone (negsuc d) x n w lt le = absurd (omega (arith, ints))

pub up_gone : (i : ℤ) (x w : ℕ) → 1 ≤ w → pos w ≤ℤ (pos 0 -ℤ i) → 0 ≡ moved_down i x % 2 ^ w
up_gone (pos d) x w some le = absurd (omega (arith, ints))
up_gone (negsuc d) x w some le = shl_gone x (suc d) w (omega (arith, ints))
