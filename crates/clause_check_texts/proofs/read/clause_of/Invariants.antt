use Rattle.std.proofs.Common.{◌≡◌, map, take}
use Rattle.clause_check.specs.Clauses.{negated}
use Rattle.clause_check_texts.proofs.read.clause_of.Given as goal

abbrev pub invariant-loop-lit : goal.invariant-loop-lit
invariant-loop-lit l = l.lits.items ≡ map negated (take l.lit-index l.known)
