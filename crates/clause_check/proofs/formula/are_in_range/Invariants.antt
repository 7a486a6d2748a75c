use Rattle.std.proofs.Common.{ℕ, ◌<◌, List, get_or}
use Rattle.clause_check.specs.declared.literal.Lit.{Lit}
use Rattle.clause_check.specs.Clauses.{IsInRange}
use Rattle.clause_check.proofs.formula.are_in_range.Given as goal

abbrev pub invariant-loop-number : goal.invariant-loop-number
invariant-loop-number l = (k : ℕ) (d : List Lit) → k < l.number → IsInRange l.vars (get_or l.clauses k d)
