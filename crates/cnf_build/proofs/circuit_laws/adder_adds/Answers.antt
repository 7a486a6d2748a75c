use Rattle.cnf_build.proofs.Adders as Adders
use Rattle.cnf_build.proofs.circuit_laws.adder_adds.Goals as goal

pub returns : goal.returns
returns c = Adders.adder_adds
