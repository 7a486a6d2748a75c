use Rattle.vlog_read_spelling.proofs.Reading.{one_tree}
use Rattle.vlog_read_spelling.proofs.law.one_tree.Goals as goal

pub returns : goal.returns
returns c = one_tree
