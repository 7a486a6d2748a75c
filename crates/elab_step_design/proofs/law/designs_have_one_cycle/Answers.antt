use Rattle.elab_step_design.proofs.OneCycle.{one_cycle}
use Rattle.elab_step_design.proofs.law.designs_have_one_cycle.Goals as goal

pub returns : goal.returns
returns c = one_cycle
