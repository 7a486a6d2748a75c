use Rattle.std.proofs.Common.{◌≡◌, ◌++◌, ◌-◌}
use Rattle.least_trace.specs.Bits.{bits_down}
use Rattle.least_trace.proofs.bits.add_bits.Given as goal

-- the bits so far, and those to come
abbrev pub invariant-loop-above : goal.invariant-loop-above
invariant-loop-above l = l.bits.items ++ bits_down l.place (l.width - l.above) ≡ l.fn.bits.items ++ bits_down l.place l.width
