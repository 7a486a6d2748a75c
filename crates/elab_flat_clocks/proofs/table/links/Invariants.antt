use Rattle.std.proofs.Common.{◌≡◌, ◌++◌, drop, map}
use Rattle.elab_flat_scopes.specs.Borrowed.{name_meant, given_meant}
use Rattle.elab_flat_clocks.specs.Tables.{link_meant, links}
use Rattle.elab_flat_clocks.proofs.table.links.Given as goal

abbrev pub invariant-loop-name : goal.invariant-loop-name
invariant-loop-name l = map link_meant l.all.items ++ links l.outer (map given_meant l.given) (map name_meant (drop l.name-index l.bits)) ≡ links l.outer (map given_meant l.given) (map name_meant l.bits)
