-- What shows how an obligation ended.
use Rattle.std.specs.Prelude.{ℕ, List}
use Rattle.word_dag.specs.Given.{AllFit}
use Rattle.word_dag.specs.Nodes.{Parts}
use Rattle.cdcl.specs.declared.solver.End.TheVariants as end
use Rattle.cnf_build.specs.Meaning.{RootIs1}
use Rattle.job_pool.specs.Evidence.{IsEvidence}
use Rattle.job_pool.specs.declared.evidence.Evidence.{Evidence}
use Rattle.job_pool.specs.declared.evidence.Evidence.TheVariants as e

-- values of the free nodes, each within its width, at which the root is 1
pub record AreWitness (ob : Parts) (us : List ℕ) : Type 0 where
  pub fit : AllFit us ob.nodes
  pub root : RootIs1 ob.nodes ob.root us

-- steps that derive the empty clause from the clauses of the obligation, values at which its root is 1, or an honest chain of exactly `budget` steps
abbrev pub IsShown : ℕ → Parts → Evidence → Type 0
IsShown budget ob (e.Derivation steps) = IsEvidence budget ob (end.Unsat steps)
IsShown budget ob (e.Values us) = AreWitness ob us.items
IsShown budget ob (e.Chain steps) = IsEvidence budget ob (end.Spent steps)
