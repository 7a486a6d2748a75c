use Rattle.std.proofs.Common.{◌≡◌, ◌++◌, drop, map}
use Rattle.elab_flat_scopes.specs.Borrowed.{name_meant, inner_meant}
use Rattle.elab_flat_instances.specs.Graph.{inner_name}
use Rattle.elab_flat_names.proofs.declared.add_inner_names.Given as goal

abbrev pub invariant-loop-inner : goal.invariant-loop-inner
invariant-loop-inner l = map name_meant l.all.items ++ map inner_name (map inner_meant (drop l.inner-index l.instances)) ≡ map name_meant l.initial.all.items ++ map inner_name (map inner_meant l.instances)
