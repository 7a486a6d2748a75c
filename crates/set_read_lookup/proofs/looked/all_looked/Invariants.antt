use Rattle.std.proofs.Common.{◌≡◌, drop}
use Rattle.set_read_lookup.specs.Meaning.{looked_of, each}
use Rattle.set_read_lookup.proofs.Each.{front}
use Rattle.set_read_lookup.proofs.looked.all_looked.Given as goal

abbrev pub invariant-loop-property : goal.invariant-loop-property
invariant-loop-property l = front l.list.items (each (looked_of l.declarations l.operations) (drop l.property-index l.operations)) ≡ each (looked_of l.declarations l.operations) l.operations
