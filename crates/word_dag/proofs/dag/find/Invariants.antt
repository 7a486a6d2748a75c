use Rattle.word_dag.proofs.Finding.{FindLoop}
use Rattle.word_dag.proofs.dag.find.Given as goal

abbrev pub invariant-loop-place : goal.invariant-loop-place
invariant-loop-place l = FindLoop l.nodes l.node l.place

abbrev pub decreases-loop-place : goal.decreases-loop-place
decreases-loop-place l = l.place
