use Rattle.replay.proofs.Rowing.{next_positions}
use Rattle.replay.proofs.twin.split_end.Goals as goal

pub last_row-requires-clause-positions : goal.last_row-requires-clause-positions
last_row-requires-clause-positions c = next_positions c.args.set.now c.set.result.now c.property_of.result.now c.args.at c.as_slice-next.result.now c.set.ensures.formed c.set.ensures.value c.requires.position c.property_of.ensures c.as_slice-next.ensures
