use Rattle.std.proofs.Common.{◌∙◌}
use Rattle.elab_flat_drivers.proofs.lacking.undriven.Goals as goal

pub undriven_among-requires-clause-same : goal.undriven_among-requires-clause-same
undriven_among-requires-clause-same c = c.in_ok-signals.ensures ∙ c.as_slice.ensures
