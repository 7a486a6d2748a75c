use Rattle.cdcl.proofs.CountLemmas.{no_superset}
use Rattle.cdcl.proofs.laws.supersets_are_not_new.Goals as goal

pub returns : goal.returns
returns c clauses d e among part new = no_superset clauses d e among part new
