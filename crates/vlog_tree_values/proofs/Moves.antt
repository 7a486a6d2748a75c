-- Numbers moved up and down by any number of steps.
use Rattle.std.proofs.Common.{◌≡◌, ℕ, suc, ◌*◌, ◌/◌, ◌%◌, ◌^◌, ◌<◌, ◌≤◌, min, true, false, ⊎_elim, sym, ap, ◌∙◌, arith, ℤ, pos, negsuc, ◌<ℤ◌, ◌≤ℤ◌, ◌-ℤ◌}
use Rattle.std.specs.Prelude.{nat_le}
use Rattle.std.proofs.lemmas.Bool.{leb-true, leb-false}
use Rattle.std.proofs.lemmas.Int.{ints}
use Rattle.word_core.specs.Words.{Bits, word, shl_of, shr_of}
use Rattle.word_core.proofs.Numbers.{low_of_low, shr_whole, shl_gone}
use Rattle.vlog_tree.specs.Value.{moved_down, natural}
use Rattle.vlog_tree_values.proofs.Numbers.{bool_cases}

-- 64 steps do what more do
down_64 : (x d : ℕ) → x < 2 ^ 64 → x / 2 ^ (min d 64) ≡ x / 2 ^ d
down_64 x d lt =
    ⊎_elim
    (λ (h : nat_le d 64 ≡ true).
    let e : min d 64 ≡ d = omega (arith, leb-true d 64 h) in
    ap (λ k. x / 2 ^ k) e)
    (λ (h : nat_le d 64 ≡ false).
    let l : 64 ≤ d = omega (arith, leb-false d 64 h) in
    let e : min d 64 ≡ 64 = omega arith in
    ap (λ k. x / 2 ^ k) e ∙ sym (shr_whole x 64 64 lt (omega arith)) ∙ shr_whole x d 64 lt l)
    (bool_cases (nat_le d 64))

up_64 : (x d n : ℕ) → n ≤ 64 → x * 2 ^ (min d 64) % 2 ^ n ≡ x * 2 ^ d % 2 ^ n
up_64 x d n le =
    ⊎_elim
    (λ (h : nat_le d 64 ≡ true).
    let e : min d 64 ≡ d = omega (arith, leb-true d 64 h) in
    ap (λ k. x * 2 ^ k % 2 ^ n) e)
    (λ (h : nat_le d 64 ≡ false).
    let l : n ≤ d = omega (arith, leb-false d 64 h) in
    let e : min d 64 ≡ 64 = omega (arith, leb-false d 64 h) in
    ap (λ k. x * 2 ^ k % 2 ^ n) e ∙ sym (shl_gone x 64 n le) ∙ shl_gone x d n l)
    (bool_cases (nat_le d 64))

same_word : (n r t : ℕ) → r % 2 ^ n ≡ t % 2 ^ n → word n r ≡ word n t
same_word n r t e = ap (λ v. let w : Bits = record { width = n; value = v } in w) e

twice_min : (d : ℕ) → min (min d 64) 64 ≡ min d 64
twice_min d = omega arith

pub lowered : (x n d r : ℕ) (a b : Bits) → x < 2 ^ 64 → a ≡ record { width = 64; value = x } → b ≡ record { width = 8; value = min d 64 } → r ≡ (shr_of a b).value → word n r ≡ word n (x / 2 ^ d)
lowered x n d r a b lt ea eb is =
    let h : r ≡ x / 2 ^ (min (min d 64) 64) = rw (ea, eb) at is in
    same_word n r (x / 2 ^ d) (ap (λ k. k % 2 ^ n) (h ∙ ap (λ k. x / 2 ^ k) (twice_min d) ∙ down_64 x d lt))

pub raised : (x n d r : ℕ) (a b : Bits) → n ≤ 64 → a ≡ record { width = 64; value = x } → b ≡ record { width = 8; value = min d 64 } → r ≡ (shl_of a b).value → word n r ≡ word n (x * 2 ^ d)
raised x n d r a b le ea eb is =
    let h : r ≡ x * 2 ^ (min (min d 64) 64) % 2 ^ 64 = rw (ea, eb) at is in
    same_word n r (x * 2 ^ d) (ap (λ k. k % 2 ^ n) (h ∙ ap (λ k. x * 2 ^ k % 2 ^ 64) (twice_min d)) ∙ low_of_low (x * 2 ^ (min d 64)) 64 n le ∙ up_64 x d n le)

-- the same by an integer
pub lowered_by : (i z : ℤ) (x n r : ℕ) (a b : Bits) → x < 2 ^ 64 → pos 0 ≤ℤ i → a ≡ record { width = 64; value = x } → b ≡ record { width = 8; value = min (natural z) 64 } → z ≡ i → r ≡ (shr_of a b).value →
    word n r ≡ word n (moved_down i x)
lowered_by (pos d) z x n r a b lt low ea eb ez is = lowered x n d r a b lt ea (rw ez at eb) is
lowered_by (negsuc d) z x n r a b lt low ea eb ez is = absurd (omega (arith, ints))

pub raised_by : (i z : ℤ) (x n r : ℕ) (a b : Bits) → n ≤ 64 → i <ℤ pos 0 → a ≡ record { width = 64; value = x } → b ≡ record { width = 8; value = min (natural z) 64 } → z ≡ pos 0 -ℤ i → r ≡ (shl_of a b).value →
    word n r ≡ word n (moved_down i x)
raised_by (pos d) z x n r a b le high ea eb ez is = absurd (omega (arith, ints))
raised_by (negsuc d) z x n r a b le high ea eb ez is =
    let e : z ≡ pos (suc d) = omega (arith, ints) in
    raised x n (suc d) r a b le ea (rw e at eb) is
