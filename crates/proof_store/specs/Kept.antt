-- Proofs that a keeper holds under the texts of obligations.
use Rattle.std.specs.Prelude.{◌≡◌, ℕ, List, Bool, Some, IsTrue, ◌↔◌, count_by, length}
use Rattle.std.specs.List.{AllZip}
use Rattle.std.specs.FinMap.{get}
use Rattle.outside.specs.Tables.{Tables}
use Rattle.word_dag.specs.Nodes.{Parts}
use Rattle.word_dag.specs.Text.{ob_text}
use Rattle.clause_check.specs.declared.formula.Cnf.{Cnf}
use Rattle.clause_check.specs.declared.formula.Step.{Step}
use Rattle.clause_check.specs.Derivations.{IsRefutation}
use Rattle.cnf_build.specs.Built.{Carries}
use Rattle.cnf_build.specs.Lower.{netlist, ob_clauses}
use Rattle.proof_store_records.specs.Records.{IsRecord}

-- the text of an obligation, under which its proof is kept
abbrev pub key_of : Parts → List ℕ
key_of ob = ob_text ob.nodes ob.root

-- the formula has the obligation's variables and clauses
pub record IsBuilt (ob : Parts) (cnf : Cnf) (bits : List (List ℕ)) : Type 0 where
  pub vars : cnf.vars ≡ length (netlist ob.nodes)
  pub clauses : cnf.clauses ≡ ob_clauses ob.nodes ob.root
  pub carries : Carries ob.nodes ob.root cnf bits

-- the steps derive the empty clause from the clauses of the obligation
pub record IsProof (ob : Parts) (steps : List Step) : Type 0 where
  pub formula : Cnf
  pub vars : formula.vars ≡ length (netlist ob.nodes)
  pub clauses : formula.clauses ≡ ob_clauses ob.nodes ob.root
  pub refutes : IsRefutation formula steps

-- the row under the obligation's text is a record of a proof of it
pub record IsKept (t : Tables) (ob : Parts) : Type 0 where
  pub bytes : List ℕ
  pub steps : List Step
  pub row : get t.proofs (key_of ob) ≡ Some bytes
  pub reads : IsRecord bytes steps
  pub proof : IsProof ob steps

-- so many of the obligations are kept: a flag for each, which is true exactly where it is
pub record CountsKept (t : Tables) (obs : List Parts) (many : ℕ) : Type 0 where
  pub flags : List Bool
  pub each : AllZip (λ ob flag. IsTrue flag ↔ IsKept t ob) obs flags
  pub are : many ≡ count_by (λ flag. flag) flags
