use Rattle.std.proofs.Common.{◌≡◌, ◌++◌, drop, map}
use Rattle.elab_flat_scopes.specs.Borrowed.{name_meant}
use Rattle.elab_flat_scopes.specs.Finding.{module_name}
use Rattle.elab_flat_instances.proofs.graph.module_names.Given as goal

abbrev pub invariant-loop-text : goal.invariant-loop-text
invariant-loop-text l = map name_meant l.names.items ++ map module_name (drop l.text-index l.modules) ≡ map module_name l.modules
