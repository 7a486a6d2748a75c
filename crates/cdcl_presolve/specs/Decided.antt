use Rattle.std.specs.Prelude.{ℕ}
use Rattle.clause_check.specs.declared.formula.Cnf.{Cnf}
use Rattle.cdcl.specs.declared.solver.End.{End}
use Rattle.cdcl.specs.Ends.{IsDecided, IsEnd}

-- an end that says whether the formula can be satisfied, with its evidence
pub record Decides (cnf : Cnf) (budget : ℕ) (end : End) : Type 0 where
  pub evidence : IsEnd cnf budget end
  pub decided : IsDecided end
