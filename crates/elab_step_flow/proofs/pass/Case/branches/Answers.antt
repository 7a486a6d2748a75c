use Rattle.elab_step_flow.proofs.pass.Case.branches.Goals as goal

pub returns-clause-common : goal.returns-clause-common
returns-clause-common c = (c.in_ok-past.past, c.in_ok-past.ensures, c.in_ok-branches.ensures.common)
