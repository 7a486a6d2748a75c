use Rattle.set_tree_completeness.proofs.laws.valid_lines_are_complete.Goals as goal
use Rattle.set_tree_completeness.proofs.Complete.{complete}

pub returns : goal.returns
returns c m set reads sound valid = complete m reads set sound valid
