use Rattle.std.proofs.Common.{◌≡◌}
use Rattle.vlog_read_lex.specs.Places.{run_end}
use Rattle.vlog_read_lex.proofs.scan.run_end.Given as goal

abbrev pub invariant-loop-at : goal.invariant-loop-at
invariant-loop-at l = run_end l.class l.bytes l.at ≡ run_end l.class l.bytes l.fn.from
