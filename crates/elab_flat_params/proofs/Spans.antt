-- The bits between two numbers.
use Rattle.std.proofs.Common.{◌≡◌, ℤ, pos, negsuc, ◌≤ℤ◌, ◌-ℤ◌, ◌+ℤ◌, refl, ap, ◌∙◌, arith}
use Rattle.std.proofs.Math.IntN.{nat_abs}
use Rattle.std.proofs.lemmas.Int.{ints}
use Rattle.vlog_tree.specs.Valuation.{IsLength}
use Rattle.vlog_tree.specs.Value.{natural}
use Rattle.elab_flat_params.specs.Constants.{Spans}

-- an integer from 0 on is its size
sized : (z : ℤ) → pos 0 ≤ℤ z → nat_abs z ≡ natural z
sized (pos n) h = refl
sized (negsuc n) h = absurd (omega (arith, ints))

length_of : (z : ℤ) → pos 1 ≤ℤ z → z ≤ℤ pos 64 → IsLength (nat_abs z)
length_of (pos n) h k = (omega (arith, ints), omega (arith, ints))
length_of (negsuc n) h k = absurd (omega (arith, ints))

pub spans : (high low count lowest : ℤ) → pos 0 ≤ℤ low → low ≤ℤ high → count ≡ ((high -ℤ low) +ℤ pos 1) → lowest ≡ low → count ≤ℤ pos 64 →
    Spans high low (record { width = nat_abs count; low = nat_abs lowest })
spans high low count lowest above order is same most =
    let some : pos 1 ≤ℤ count = omega (arith, ints) in
    record {
      order = (above, order);
      width = ap nat_abs is ∙ sized ((high -ℤ low) +ℤ pos 1) (omega (arith, ints));
      length = length_of count some most;
      lowest = ap nat_abs same ∙ sized low above;
    }
