use Rattle.std.proofs.Common.{arith}
use Rattle.std.proofs.lemmas.Int.{ints}
use Rattle.vlog_tree_values.proofs.selects.fixed_width.Goals as goal

pub returns-clause-some : goal.returns-clause-some
returns-clause-some c = (omega (arith, ints), omega (arith, ints), omega (arith, ints))
