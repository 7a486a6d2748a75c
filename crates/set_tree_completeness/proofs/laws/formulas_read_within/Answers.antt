use Rattle.std.proofs.Common.{ap}
use Rattle.vlog_tree.specs.Value.{own_value}
use Rattle.set_tree.specs.Formulas.{entries_from}
use Rattle.set_tree_completeness.proofs.laws.formulas_read_within.Goals as goal

pub returns : goal.returns
returns c set f xs ys same = ap (λ rows. own_value (entries_from set.names 0 rows) f) same
