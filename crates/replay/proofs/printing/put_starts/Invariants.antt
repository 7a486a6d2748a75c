use Rattle.std.proofs.Common.{take}
use Rattle.replay.specs.Puts.{Put}
use Rattle.replay.specs.Texts.{start_lines}
use Rattle.replay.proofs.printing.put_starts.Given as goal

-- what was put so far
abbrev pub invariant-loop-start : goal.invariant-loop-start
invariant-loop-start g l = Put g.S.Sink.written g.S.Sink.faults l.fn.sink l.sink (start_lines (take l.start-index l.starts))
