-- What shows how an obligation ended.
use Rattle.std.specs.Prelude.{◌≡◌, ℕ, List, length, ⊤}
use Rattle.word_dag.specs.Nodes.{Parts}
use Rattle.word_dag.specs.Given.{AllFit}
use Rattle.clause_check.specs.declared.formula.Cnf.{Cnf}
use Rattle.cnf_build.specs.Lower.{netlist, ob_clauses}
use Rattle.cnf_build.specs.Meaning.{RootIs1}
use Rattle.cdcl.specs.declared.solver.End.{End}
use Rattle.cdcl.specs.declared.solver.End.TheVariants.{Unsat, Sat, Spent}
use Rattle.cdcl.specs.Ends.{IsEnd}

-- what the end says of the obligation: that no values make its root 1, or that some do
abbrev pub Decides : Parts → End → Type 0
Decides ob (Unsat steps) = (values : List ℕ) → RootIs1 ob.nodes ob.root values → ⊥
Decides ob (Sat assignment) = (values : List ℕ) × AllFit values ob.nodes × RootIs1 ob.nodes ob.root values
Decides ob (Spent steps) = ⊤

-- The end is shown over the clauses of the obligation: by steps that lead to the empty clause, by an assignment that holds, or by
-- an honest chain of exactly `budget` steps. So it decides the obligation
pub record IsEvidence (budget : ℕ) (ob : Parts) (end : End) : Type 0 where
  pub formula : Cnf
  pub vars : formula.vars ≡ length (netlist ob.nodes)
  pub clauses : formula.clauses ≡ ob_clauses ob.nodes ob.root
  pub shown : IsEnd formula budget end
  pub decides : Decides ob end
