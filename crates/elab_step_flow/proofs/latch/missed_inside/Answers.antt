use Rattle.std.proofs.Common.{◌∙◌}
use Rattle.elab_step_flow.proofs.latch.missed_inside.Goals as goal

pub missed_in-requires-clause-same : goal.missed_in-requires-clause-same
missed_in-requires-clause-same c = c.in_ok-signals.ensures ∙ c.list.ensures
