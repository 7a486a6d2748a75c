use Rattle.std.proofs.Common.{◌≡◌, ◌++◌, drop, map}
use Rattle.elab_flat_scopes.specs.Borrowed.{name_meant}
use Rattle.elab_flat_clocks.specs.Tables.{link_meant, itself}
use Rattle.elab_flat_clocks.proofs.table.themselves.Given as goal

abbrev pub invariant-loop-name : goal.invariant-loop-name
invariant-loop-name l = map link_meant l.all.items ++ map itself (map name_meant (drop l.name-index l.names)) ≡ map itself (map name_meant l.names)
