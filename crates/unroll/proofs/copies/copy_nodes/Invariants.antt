use Rattle.unroll.proofs.Copying.{CopyLoop}
use Rattle.unroll.proofs.copies.copy_nodes.Given as goal

-- the copies so far
abbrev pub invariant-loop-j : goal.invariant-loop-j
invariant-loop-j l = CopyLoop l.design l.fn.dag l.dag l.leaves l.copies.items l.j
