use Rattle.std.proofs.Common.{◌≡◌}
use Rattle.vlog_read_lex.specs.Places.{closing}
use Rattle.vlog_read_lex.proofs.scan.closing.Given as goal

abbrev pub invariant-loop-at : goal.invariant-loop-at
invariant-loop-at l = closing l.last l.bytes l.at ≡ closing l.last l.bytes l.fn.from
