use Rattle.twin_tests.proofs.Framed.{MetLoop}
use Rattle.twin_tests.proofs.frame.met_nodes.Given as goal

-- the nodes so far
abbrev pub invariant-loop-end : goal.invariant-loop-end
invariant-loop-end l = MetLoop l.set l.fn.dag l.dag l.met.items l.side l.end
