-- The bits of runs of ones, clipped to the length of a signal.
use Rattle.std.proofs.Common.{◌≡◌, ℕ, ◌≤◌, ◌<◌, min, ◌⊎◌, inl, inr, arith}
use Rattle.std.specs.Prelude.{ℤ, pos, negsuc, ◌≤ℤ◌, ◌<ℤ◌}
use Rattle.std.specs.Int.{bit_at}
use Rattle.std.proofs.lemmas.Bool.{cases_lt}
use Rattle.std.proofs.lemmas.Int.{ints}
use Rattle.std.proofs.lemmas.Nat.Bits.{bit_at_mask_inside, bit_at_mask_below, bit_at_mask_above}
use Rattle.vlog_tree.specs.Value.{natural}
use Rattle.elab_flat_drivers.specs.Claims.{ones}

-- bit b stands from one place on, below another
pub record IsInside (from to b : ℕ) : Type 0 where
  pub low : from ≤ b
  pub high : b < to

pub ones_set : (from to b : ℕ) → bit_at (ones from to) b ≡ 1 → IsInside from to b
ones_set from to b h = record { low = low (lt_or_le b from); high = high (lt_or_le b to) }
  where
    lt_or_le : (i j : ℕ) → (i < j) ⊎ (j ≤ i)
    lt_or_le i j = cases_lt i j

    apart : (n : ℕ) → n ≡ 0 → n ≡ 1 → ⊥
    apart n e f = omega arith

    low : (b < from) ⊎ (from ≤ b) → from ≤ b
    low (inl lt) = absurd (apart _ (bit_at_mask_below from to b lt) h)
    low (inr le) = le

    high : (b < to) ⊎ (to ≤ b) → b < to
    high (inl lt) = lt
    high (inr le) = absurd (apart _ (bit_at_mask_above from to b le) h)

pub set_ones : (from to b : ℕ) → IsInside from to b → bit_at (ones from to) b ≡ 1
set_ones from to b h = bit_at_mask_inside from to b h.low h.high

-- the integers between two others, as bits of a signal of w bits
pub run_set : (w b : ℕ) (i j : ℤ) → IsInside (min w (natural i)) (min w (natural j)) b → (i ≤ℤ pos b) × (pos b <ℤ j) × (b < w)
run_set w b (pos i) (pos j) h = (omega (arith, ints, h.low, h.high), omega (arith, ints, h.low, h.high), omega (arith, ints, h.low, h.high))
run_set w b (negsuc i) (pos j) h = (omega (arith, ints), omega (arith, ints, h.low, h.high), omega (arith, ints, h.low, h.high))
run_set w b (pos i) (negsuc j) h = absurd (omega (arith, ints, h.low, h.high))
run_set w b (negsuc i) (negsuc j) h = absurd (omega (arith, ints, h.low, h.high))

pub set_run : (w b : ℕ) (i j : ℤ) → b < w → i ≤ℤ pos b → pos b <ℤ j → IsInside (min w (natural i)) (min w (natural j)) b
set_run w b (pos i) (pos j) lt le below = record { low = omega (arith, ints); high = omega (arith, ints) }
set_run w b (negsuc i) (pos j) lt le below = record { low = omega (arith, ints); high = omega (arith, ints) }
set_run w b (pos i) (negsuc j) lt le below = absurd (omega (arith, ints))
set_run w b (negsuc i) (negsuc j) lt le below = absurd (omega (arith, ints))
