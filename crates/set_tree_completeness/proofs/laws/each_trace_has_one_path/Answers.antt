use Rattle.set_tree_completeness.proofs.laws.each_trace_has_one_path.Goals as goal
use Rattle.set_tree_completeness.proofs.OnePath.{one_path}

pub returns : goal.returns
returns c m set trace sound = one_path m set sound trace
