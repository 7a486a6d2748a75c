use Rattle.std.proofs.Common.{◌≡◌, length}
use Rattle.clause_check_texts.specs.Words.{words}
use Rattle.clause_check_texts.specs.Lines.{numbers_of}
use Rattle.clause_check_texts.proofs.LineLemmas.{onto}
use Rattle.clause_check_texts.proofs.line.numbers_of.Given as goal

abbrev pub invariant-loop-first : goal.invariant-loop-first
invariant-loop-first l = numbers_of (words l.text) ≡ onto l.numbers.items (numbers_of (words l.rest))

abbrev pub decreases-loop-first : goal.decreases-loop-first
decreases-loop-first l = length l.rest
