use Rattle.outside.proofs.ByteMaps.{first_key}
use Rattle.outside.proofs.byte_map.first_of.Goals as goal

pub returns : goal.returns
returns g c = first_key _ _ _ _ c.keys.ensures.rest c.next.ensures.steps
