use Rattle.std.proofs.Common.{length}
use Rattle.vlog_tree_values.proofs.names.+is_decimal.Given as goal

abbrev pub decreases-is_decimal : goal.decreases-is_decimal
decreases-is_decimal l = length l.bytes.now
