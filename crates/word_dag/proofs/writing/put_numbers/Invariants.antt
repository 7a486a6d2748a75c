use Rattle.word_dag.proofs.Texts.{NumbersLoop}
use Rattle.word_dag.proofs.writing.put_numbers.Given as goal

abbrev pub invariant-loop-number : goal.invariant-loop-number
invariant-loop-number l = NumbersLoop l.fn.out.items l.out.items l.numbers l.number-index
