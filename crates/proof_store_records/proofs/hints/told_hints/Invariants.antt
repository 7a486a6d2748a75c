use Rattle.std.proofs.Common.{drop}
use Rattle.proof_store_records.proofs.DistanceLemmas.{HintsSoFar}
use Rattle.proof_store_records.proofs.hints.told_hints.Given as goal

abbrev pub invariant-loop-number : goal.invariant-loop-number
invariant-loop-number l = HintsSoFar l.fn.numbers (drop l.number-index l.later) l.hints.items l.before
