use Rattle.outside.proofs.ByteMaps.{first_row}
use Rattle.outside.proofs.byte_map.first_above.Goals as goal

pub returns-in-Some : goal.returns-in-Some
returns-in-Some g c =
    rw c.in-Some.is at (first_row c.args.low c.args.rows.now.entries _ _ _ (c.range-above.ensures.between tt) c.next.ensures.steps)

pub returns-in-None : goal.returns-in-None
returns-in-None g c =
    rw c.in-None.is at (first_row c.args.low c.args.rows.now.entries _ _ _ (c.range-above.ensures.between tt) c.next.ensures.steps)
