use Rattle.std.proofs.Common.{◌≡◌, take}
use Rattle.outside.proofs.rows.copy_of_traces.Given as goal

abbrev pub invariant-loop-trace : goal.invariant-loop-trace
invariant-loop-trace l = l.copies.items ≡ take l.trace-index l.traces
