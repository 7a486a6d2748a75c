use Rattle.std.proofs.Common.{sym, ◌∙◌}
use Rattle.elab_flat_params.proofs.signal.signal_of.Goals as goal

pub returns-in-Err-clause-err : goal.returns-in-Err-clause-err
returns-in-Err-clause-err c = let h = rw c.in-Err.is at c.in_ok-bits.ensures.err in (h.0, sym c.range_of.ensures ∙ h.1, h.2)
