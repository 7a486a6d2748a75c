use Rattle.std.proofs.Common.{◌≡◌, ◌++◌, drop, map}
use Rattle.elab_flat_scopes.specs.Borrowed.{name_meant}
use Rattle.elab_flat_clocks.specs.Tables.{link_meant, link_name}
use Rattle.elab_flat_clocks.proofs.table.names_of.Given as goal

abbrev pub invariant-loop-link : goal.invariant-loop-link
invariant-loop-link l = map name_meant l.all.items ++ map link_name (map link_meant (drop l.link-index l.list)) ≡ map link_name (map link_meant l.list)
