use Rattle.set_tree_completeness.proofs.laws.valid_lines_make_paths.Goals as goal
use Rattle.set_tree_completeness.proofs.Walks.{paths_are_walks, have_same_paths}

pub returns-clause-walks : goal.returns-clause-walks
returns-clause-walks c m set reads sound valid = paths_are_walks m reads set sound valid

pub returns-clause-same : goal.returns-clause-same
returns-clause-same c m set reads sound valid = have_same_paths m reads set sound valid
