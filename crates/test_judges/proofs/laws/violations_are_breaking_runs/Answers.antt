use Rattle.set_tree.specs.Runs.{design_of}
use Rattle.test_judges.proofs.Joining.{violations_break}
use Rattle.test_judges.proofs.laws.violations_are_breaking_runs.Goals as goal

pub returns : goal.returns
returns g c m set = violations_break (design_of g.C.Cycle.follows g.C.Cycle.is_reset g.C.Cycle.values) m set
