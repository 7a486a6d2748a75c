use Rattle.word_dag.proofs.Texts.{NodesLoop}
use Rattle.word_dag.proofs.writing.put_nodes.Given as goal

abbrev pub invariant-loop-i : goal.invariant-loop-i
invariant-loop-i l = NodesLoop l.fn.out.items l.out.items l.nodes l.i
