use Rattle.std.proofs.Common.{◌∙◌, sym, append-nil}
use Rattle.outside.proofs.ByteMaps.{map-keys}
use Rattle.outside.proofs.byte_map.copies.Goals as goal

pub loop-key-init : goal.loop-key-init
loop-key-init g c =
    rw c.new-names.ensures.items
    (map-keys c.args.rows.now.entries c.into_iter-key-iterator.result (c.into_iter-key-iterator.ensures.into_iter_gives ∙ c.keys-key-items.ensures.rest))

pub returns : goal.returns
returns g c = sym (append-nil _) ∙ rw c.in-None.ensures.steps.0 at c.loop-key.invariant
