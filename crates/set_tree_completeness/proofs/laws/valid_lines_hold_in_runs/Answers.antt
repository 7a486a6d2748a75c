use Rattle.set_tree_completeness.proofs.laws.valid_lines_hold_in_runs.Goals as goal
use Rattle.set_tree_completeness.proofs.Sound.{runs_satisfy}
use Rattle.set_tree.specs.Runs.{design_of}

pub returns : goal.returns
returns g c m set reads offsets valid = runs_satisfy (design_of g.C.Cycle.follows g.C.Cycle.is_reset g.C.Cycle.values) m reads set offsets valid
