use Rattle.std.proofs.Common.{◌≡◌}
use Rattle.set_read_lookup.specs.Meaning.{name_of, each}
use Rattle.set_read_lookup.proofs.Each.{front}
use Rattle.set_read_lookup.proofs.looked.names_of.Given as goal

abbrev pub invariant-loop-declaration : goal.invariant-loop-declaration
invariant-loop-declaration l = front l.names.items (each name_of l.declaration-iterator.rest.items) ≡ each name_of l.fn.declarations.items
