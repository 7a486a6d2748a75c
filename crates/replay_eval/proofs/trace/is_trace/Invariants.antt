use Rattle.std.proofs.Common.{◌≡◌, drop}
use Rattle.std.specs.List.{list_all}
use Rattle.replay_eval.specs.Traces.{fits_names}
use Rattle.replay_eval.proofs.trace.is_trace.Given as goal

abbrev pub invariant-loop-row : goal.invariant-loop-row
invariant-loop-row l = list_all (fits_names l.names) (drop l.row-index l.rows) ≡ list_all (fits_names l.names) l.rows
