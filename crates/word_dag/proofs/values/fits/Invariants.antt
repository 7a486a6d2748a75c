use Rattle.word_dag.proofs.Fitting.{FitsLoop}
use Rattle.word_dag.proofs.values.fits.Given as goal

abbrev pub invariant-loop-node : goal.invariant-loop-node
invariant-loop-node l = FitsLoop l.fn.values l.left l.nodes l.node-index
