use Rattle.std.proofs.Common.{◌≡◌, ◌++◌, drop, map}
use Rattle.elab_flat_scopes.specs.Borrowed.{inner_meant}
use Rattle.elab_flat_instances.specs.Graph.{targets_from}
use Rattle.elab_flat_instances.proofs.graph.targets_of.Given as goal

abbrev pub invariant-loop-inner : goal.invariant-loop-inner
invariant-loop-inner l = record {
  place : l.at ≡ l.inner-index;
  rest : l.all.items ++ targets_from l.modules l.names l.at (map inner_meant (drop l.inner-index l.instances)) ≡ targets_from l.modules l.names 0 (map inner_meant l.instances);
}
