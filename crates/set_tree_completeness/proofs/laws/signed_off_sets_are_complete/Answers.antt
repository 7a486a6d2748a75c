use Rattle.set_tree_completeness.proofs.laws.signed_off_sets_are_complete.Goals as goal
use Rattle.set_tree_completeness.proofs.Complete.{complete}
use Rattle.set_tree_completeness.proofs.Forever.{complete_forever}
use Rattle.set_tree_completeness.proofs.SignedOff.{set_valid, runs, walks}
use Rattle.set_tree.specs.Runs.{design_of}

pub returns-clause-runs : goal.returns-clause-runs
returns-clause-runs g c m set reads sound signed_off = runs (design_of g.C.Cycle.follows g.C.Cycle.is_reset g.C.Cycle.values) m reads set sound signed_off

pub returns-clause-walks : goal.returns-clause-walks
returns-clause-walks g c m set reads sound signed_off = walks (design_of g.C.Cycle.follows g.C.Cycle.is_reset g.C.Cycle.values) m reads set sound signed_off

pub returns-clause-complete : goal.returns-clause-complete
returns-clause-complete g c m set reads sound signed_off = complete m reads set sound (set_valid (design_of g.C.Cycle.follows g.C.Cycle.is_reset g.C.Cycle.values) m reads set sound signed_off)

pub returns-clause-forever : goal.returns-clause-forever
returns-clause-forever g c m set reads sound signed_off = complete_forever m reads set sound (complete m reads set sound (set_valid (design_of g.C.Cycle.follows g.C.Cycle.is_reset g.C.Cycle.values) m reads set sound signed_off))
