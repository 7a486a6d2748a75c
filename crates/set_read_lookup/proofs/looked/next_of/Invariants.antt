use Rattle.std.proofs.Common.{◌≡◌, drop}
use Rattle.set_read_lookup.specs.Meaning.{successor_of, each}
use Rattle.set_read_lookup.proofs.Each.{front}
use Rattle.set_read_lookup.proofs.looked.next_of.Given as goal

abbrev pub invariant-loop-name : goal.invariant-loop-name
invariant-loop-name l = front l.list.items (each (successor_of l.operations) (drop l.name-index l.names)) ≡ each (successor_of l.operations) l.names
