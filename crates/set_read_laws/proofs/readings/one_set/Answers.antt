use Rattle.set_read_laws.proofs.Sets.{one_set}
use Rattle.set_read_laws.proofs.readings.one_set.Goals as goal

pub returns : goal.returns
returns c = one_set
