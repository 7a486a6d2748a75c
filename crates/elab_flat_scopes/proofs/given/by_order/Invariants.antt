use Rattle.std.proofs.Common.{◌≡◌, ◌++◌, drop, map}
use Rattle.vlog_tree_runs.specs.Scopes.{by_order}
use Rattle.elab_flat_scopes.specs.Borrowed.{name_meant, given_meant}
use Rattle.elab_flat_scopes.proofs.given.by_order.Given as goal

abbrev pub invariant-loop-value : goal.invariant-loop-value
invariant-loop-value l = record {
  given : map given_meant l.all.items ++ by_order (map name_meant (drop l.at l.names)) (drop l.value-index l.exprs) ≡ by_order (map name_meant l.names) l.exprs;
  same : l.at ≡ l.value-index;
}
