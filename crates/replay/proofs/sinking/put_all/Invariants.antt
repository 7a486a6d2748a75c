use Rattle.std.proofs.Common.{take}
use Rattle.replay.specs.Puts.{Put, pieces_text}
use Rattle.replay.proofs.sinking.put_all.Given as goal

-- what was put so far
abbrev pub invariant-loop-piece : goal.invariant-loop-piece
invariant-loop-piece g l = Put g.S.Sink.written g.S.Sink.faults l.fn.sink l.sink (pieces_text (take l.piece-index l.pieces))
