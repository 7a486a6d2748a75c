use Rattle.std.proofs.Common.{length}
use Rattle.path_machine.proofs.Reading.{ReadLoop}
use Rattle.path_machine.proofs.rows.rows_of.Given as goal

-- the rows of the lines so far
abbrev pub invariant-loop-rest : goal.invariant-loop-rest
invariant-loop-rest l = ReadLoop l.widths l.text l.rest l.rows

abbrev pub decreases-loop-rest : goal.decreases-loop-rest
decreases-loop-rest l = length l.rest
