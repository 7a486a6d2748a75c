use Rattle.std.proofs.Common.{◌≡◌, ◌++◌}
use Rattle.set_read_lookup.specs.Meaning.{properties_of}
use Rattle.set_read_lookup.proofs.looked.properties_of.Given as goal

abbrev pub invariant-loop-looked : goal.invariant-loop-looked
invariant-loop-looked l = l.list.items ++ properties_of l.looked-iterator.rest.items l.texts.items ≡ properties_of l.fn.looked.items l.fn.texts.items
