use Rattle.std.proofs.Common.{◌≡◌, ◌++◌, drop, map}
use Rattle.elab_flat_scopes.specs.Borrowed.{name_meant}
use Rattle.elab_flat_names.specs.Exprs.{edge_name}
use Rattle.elab_flat_names.proofs.names.add_edges.Given as goal

abbrev pub invariant-loop-edge : goal.invariant-loop-edge
invariant-loop-edge l = map name_meant l.all.items ++ map edge_name (drop l.edge-index l.edges) ≡ map name_meant l.initial.all.items ++ map edge_name l.edges
