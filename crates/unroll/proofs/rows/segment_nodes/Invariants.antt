use Rattle.unroll.proofs.Rowing.{RowsLoop}
use Rattle.unroll.proofs.rows.segment_nodes.Given as goal

-- the rows so far
abbrev pub invariant-loop-end : goal.invariant-loop-end
invariant-loop-end l = RowsLoop l.bound.design l.bound.set l.resets l.end l.fn.dag l.dag l.copies.items l.rows.items
