use Rattle.std.proofs.Common.{◌≡◌, drop}
use Rattle.replay_eval.specs.Traces.{fits_names}
use Rattle.replay_eval.proofs.trace.fits_names.Given as goal

abbrev pub invariant-loop-i : goal.invariant-loop-i
invariant-loop-i l = fits_names (drop l.i l.names) (drop l.i l.row) ≡ fits_names l.names l.row
