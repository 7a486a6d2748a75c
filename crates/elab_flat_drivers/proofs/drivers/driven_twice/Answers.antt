use Rattle.std.proofs.Common.{◌∙◌}
use Rattle.elab_flat_drivers.proofs.drivers.driven_twice.Goals as goal

pub driven_twice_among-requires-clause-same : goal.driven_twice_among-requires-clause-same
driven_twice_among-requires-clause-same c = c.in_ok-signals.ensures ∙ c.as_slice.ensures
