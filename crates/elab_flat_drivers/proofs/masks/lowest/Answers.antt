use Rattle.std.proofs.Common.{arith}
use Rattle.std.specs.Int.{w64}
use Rattle.std.proofs.lemmas.Nat.Bits.{bit_at-trailing_zeros}
use Rattle.elab_flat_drivers.proofs.masks.lowest.Goals as goal

pub returns-clause-set : goal.returns-clause-set
returns-clause-set c = (bit_at-trailing_zeros w64 c.args.bits c.requires (omega (arith, c.ranges.bits))).1
