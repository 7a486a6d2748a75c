use Rattle.cnf_build.proofs.Exists as Exists
use Rattle.cnf_build.proofs.circuit_laws.run_exists.Goals as goal

pub returns : goal.returns
returns c = Exists.run_exists
