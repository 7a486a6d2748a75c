use Rattle.set_read_laws.proofs.Texts.{means_one_set, spells_or_refused}
use Rattle.set_read_laws.proofs.readings.one_reading.Goals as goal

pub returns-clause-set : goal.returns-clause-set
returns-clause-set c = means_one_set

pub returns-clause-apart : goal.returns-clause-apart
returns-clause-apart c = spells_or_refused
