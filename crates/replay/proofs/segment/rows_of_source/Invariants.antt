use Rattle.replay.proofs.Cycling.{SegmentLoop}
use Rattle.replay.proofs.segment.rows_of_source.Given as goal

-- the rows so far
abbrev pub invariant-loop-at : goal.invariant-loop-at
invariant-loop-at g l = SegmentLoop l.bound.design l.bound.set l.resets (g.S.Source.gives l.source) l.at l.words.items l.rows
