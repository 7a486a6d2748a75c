use Rattle.outside.proofs.NextKeys.{next_key}
use Rattle.outside.proofs.laws.next_key_is_least.Goals as goal

pub returns : goal.returns
returns c = next_key
