use Rattle.std.proofs.Common.{arith}
use Rattle.std.proofs.lemmas.Int.{ints}
use Rattle.elab_flat_widths.proofs.part.fixed_width.Goals as goal

pub returns-clause-some : goal.returns-clause-some
returns-clause-some c = (omega (arith, ints), omega (arith, ints), omega (arith, ints))
