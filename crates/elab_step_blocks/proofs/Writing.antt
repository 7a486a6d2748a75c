-- Bits of a number that are written as those of a word.
use Rattle.std.proofs.Common.{arith, ◌≡◌, ℕ, ◌+◌, ◌-◌, ◌*◌, ◌/◌, ◌%◌, ◌^◌, ◌<◌, ◌≤◌, min, true, false, sym, ap, ◌∙◌, ◌⊎◌, inl, inr, ⊎_elim, ℤ, pos, negsuc, ◌<ℤ◌, ◌≤ℤ◌, ◌-ℤ◌, ◌+ℤ◌}
use Rattle.std.specs.Prelude.{nat_lt}
use Rattle.std.specs.Int.{bit_at}
use Rattle.std.proofs.lemmas.Nat.Bits.{bit_at_cat_low, same_from_bits}
use Rattle.std.proofs.lemmas.Bool.{ltb-true, ltb-false}
use Rattle.std.proofs.lemmas.Int.{ints}
use Rattle.std.proofs.Math.Nat.{div-add-mod, mod-lt, mod-eq_of_lt, div-one}
use Rattle.word_core.proofs.Numbers.{moved_small, shr_whole}
use Rattle.vlog_tree_values.proofs.Numbers.{bool_cases}
use Rattle.vlog_tree_runs.specs.Places.{write_bits}
use Rattle.vlog_tree_runs.specs.Laws.{WritesInside, WritesNothingElse, WritesInOnePiece, WritesFromTheFirst}

parts : (x k : ℕ) → x ≡ x / 2 ^ k * 2 ^ k + x % 2 ^ k
parts x k = omega (arith, div-add-mod x (2 ^ k))

pub low_bit : (x k j : ℕ) → j < k → bit_at (x % 2 ^ k) j ≡ bit_at x j
low_bit x k j l = sym (ap (λ z. bit_at z j) (parts x k) ∙ bit_at_cat_low (x / 2 ^ k) k (x % 2 ^ k) j l)

pub less_or : (j b : ℕ) → (j < b) ⊎ (b ≤ j)
less_or j b = ⊎_elim (λ (e : nat_lt j b ≡ true). inl (ltb-true j b e)) (λ (e : nat_lt j b ≡ false). inr (ltb-false j b e)) (bool_cases (nat_lt j b))

-- ---- in one piece

-- no lower bits are kept
pub no_low : (x t lo : ℕ) → lo ≡ 0 → t ≡ t * 2 ^ lo + x % 2 ^ lo
no_low x t lo is = none ∙ ap (λ k. t * 2 ^ k + x % 2 ^ k) (sym is)
  where
    none : t ≡ t * 2 ^ 0 + x % 2 ^ 0
    none = let z : x % 1 < 1 = mod-lt x (omega arith) in omega (arith, z)

-- no higher bits are kept
pub no_high : (x t k n : ℕ) → x < 2 ^ n → k ≡ n → t ≡ x / 2 ^ k * 2 ^ k + t
no_high x t k n lt is = let z : x / 2 ^ k ≡ 0 = ap (λ m. x / 2 ^ m) is ∙ sym (shr_whole x n n lt (omega arith)) in nothing (2 ^ k) ∙ ap (λ m. m * 2 ^ k + t) (sym z)
  where
    nothing : (p : ℕ) → t ≡ 0 * p + t
    nothing p = omega arith

pub some_high : (x t k n : ℕ) → x < 2 ^ n → k ≤ n → x / 2 ^ k % 2 ^ (n - k) * 2 ^ k + t ≡ x / 2 ^ k * 2 ^ k + t
some_high x t k n lt le = ap (λ m. m * 2 ^ k + t) (mod-eq_of_lt (moved_small x n k le lt))

pub overlaid_is : WritesInOnePiece → (size a n t x : ℕ) → t < 2 ^ n → a + n ≤ size → x / 2 ^ (n + a) * 2 ^ (n + a) + (t * 2 ^ a + x % 2 ^ a) ≡ write_bits size (pos a) n t x
overlaid_is law size a n t x lt le =
    let turned : n + a ≡ a + n = omega arith in
    ap (λ k. x / 2 ^ k * 2 ^ k + (t * 2 ^ a + x % 2 ^ a)) turned
    ∙ ap (λ k. x / 2 ^ (a + n) * 2 ^ (a + n) + (k * 2 ^ a + x % 2 ^ a)) (sym (mod-eq_of_lt lt))
    ∙ sym (law size a n t x le)

-- ---- bits that the word hasn't

-- the number of bits that there are
pub kept_bit : WritesInside → WritesNothingElse → (size a n m t x j : ℕ) → m ≡ min n (size - a) → a < size → bit_at (write_bits size (pos a) m (t % 2 ^ m) x) j ≡ bit_at (write_bits size (pos a) n t x) j
kept_bit inside others size a n m t x j is lt =
    ⊎_elim
    (λ (l : j < a). others size a m (t % 2 ^ m) x j (inl l) ∙ sym (others size a n t x j (inl l)))
    (λ (l : a ≤ j). ⊎_elim
    (λ (k : j < a + m).
    inside size a m (t % 2 ^ m) x j l k (omega (arith, is, lt, k)) ∙ low_bit t m (j - a) (omega (arith, l, k)) ∙ sym (inside size a n t x j l (omega (arith, is, k)) (omega (arith, is, lt, k))))
    (λ (k : a + m ≤ j). others size a m (t % 2 ^ m) x j (inr (inl k)) ∙ sym (others size a n t x j (inr (past k))))
    (less_or j (a + m)))
    (less_or j a)
  where
    past : a + m ≤ j → (a + n ≤ j) ⊎ (size ≤ j)
    past k = ⊎_elim (λ (l : j < size). inl (omega (arith, is, k, l, lt))) (λ (l : size ≤ j). inr l) (less_or j size)

pub clipped_is : WritesInside → WritesNothingElse → (size a n m t x : ℕ) → m ≡ min n (size - a) → a < size → write_bits size (pos a) m (t / 2 ^ 0 % 2 ^ m) x ≡ write_bits size (pos a) n t x
clipped_is inside others size a n m t x is lt =
    ap (λ k. write_bits size (pos a) m (k % 2 ^ m) x) (div-one t)
    ∙ same_from_bits (write_bits size (pos a) m (t % 2 ^ m) x) (write_bits size (pos a) n t x) (λ j. kept_bit inside others size a n m t x j is lt)

-- ---- where the first of them stands

pub from_below_is : WritesFromTheFirst → (size d n t x : ℕ) → 1 ≤ d → d < n → t < 2 ^ n → write_bits size (pos 0) (n - d) (t / 2 ^ d % 2 ^ (n - d)) x ≡ write_bits size (negsuc (d - 1)) n t x
from_below_is law size d n t x some lt fits =
    let back : d ≡ d - 1 + 1 = omega (arith, some) in
    ap (λ k. write_bits size (pos 0) (n - d) k x) (mod-eq_of_lt (moved_small t n d (omega (arith, lt)) fits))
    ∙ ap (λ k. write_bits size (pos 0) (n - k) (t / 2 ^ k) x) back
    ∙ sym (law size (d - 1) n t x)

pub past_above : WritesNothingElse → (i : ℤ) (size n t x : ℕ) → pos size ≤ℤ i → x ≡ write_bits size i n t x
past_above others (pos a) size n t x le =
    same_from_bits x (write_bits size (pos a) n t x) (λ j. sym (others size a n t x j (nowhere j)))
  where
    nowhere : (j : ℕ) → (j < a) ⊎ ((a + n ≤ j) ⊎ (size ≤ j))
    nowhere j = ⊎_elim (λ l. inl l) (λ (l : a ≤ j). inr (inr (omega (arith, ints, le, l)))) (less_or j a)
past_above others (negsuc a) size n t x le = absurd (omega (arith, ints))

pub past_below : WritesFromTheFirst → (i : ℤ) (size n t x : ℕ) → (i +ℤ pos n) ≤ℤ pos 0 → x ≡ write_bits size i n t x
past_below law (pos a) size n t x le = let z : 0 ≡ n = omega (arith, ints) in ap (λ k. write_bits size (pos a) k t x) z
past_below law (negsuc a) size n t x le =
    let z : 0 ≡ n - (a + 1) = omega (arith, ints) in
    ap (λ k. write_bits size (pos 0) k (t / 2 ^ (a + 1)) x) z ∙ sym (law size a n t x)

pub below_at : (i : ℤ) (size d n t x : ℕ) → i <ℤ pos 0 → pos d ≡ (pos 0 -ℤ i) → write_bits size (negsuc (d - 1)) n t x ≡ write_bits size i n t x
below_at (pos k) size d n t x lt is = absurd (omega (arith, ints))
below_at (negsuc k) size d n t x lt is = let e : d - 1 ≡ k = omega (arith, ints) in ap (λ m. write_bits size (negsuc m) n t x) e

pub above_at : (i : ℤ) (size d n t x : ℕ) → pos d ≡ i → write_bits size (pos d) n t x ≡ write_bits size i n t x
above_at i size d n t x is = ap (λ k. write_bits size k n t x) is
