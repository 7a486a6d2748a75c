use Rattle.std.proofs.Common.{◌≡◌, drop}
use Rattle.set_read_lookup.specs.Meaning.{cover_of, each}
use Rattle.set_read_lookup.proofs.Each.{front}
use Rattle.set_read_lookup.proofs.looked.covers_of.Given as goal

abbrev pub invariant-loop-cover : goal.invariant-loop-cover
invariant-loop-cover l = front l.list.items (each (cover_of l.declarations) (drop l.cover-index l.covers)) ≡ each (cover_of l.declarations) l.covers
