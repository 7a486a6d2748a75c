use Rattle.word_dag.proofs.NamingLaws.{values_have_namings}
use Rattle.word_dag.proofs.names.values_have_namings.Goals as goal

pub returns : goal.returns
returns c = values_have_namings
