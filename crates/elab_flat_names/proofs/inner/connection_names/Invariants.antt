use Rattle.std.proofs.Common.{◌≡◌, ◌++◌, drop, map}
use Rattle.elab_flat_scopes.specs.Borrowed.{name_meant}
use Rattle.elab_flat_names.specs.Rows.{connection_name}
use Rattle.elab_flat_names.proofs.inner.connection_names.Given as goal

abbrev pub invariant-loop-connection : goal.invariant-loop-connection
invariant-loop-connection l = map name_meant l.all.items ++ map connection_name (drop l.connection-index l.connections) ≡ map connection_name l.connections
