use Rattle.cnf_build.proofs.Tseitin as Tseitin
use Rattle.cnf_build.proofs.circuit_laws.clauses_run.Goals as goal

pub returns : goal.returns
returns c = λ s k gs. (Tseitin.clauses_run s k gs, Tseitin.run_clauses s k gs)
