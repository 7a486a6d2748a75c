use Rattle.std.proofs.Common.{◌≡◌, ◌++◌, drop, map}
use Rattle.elab_flat_scopes.specs.Borrowed.{name_meant, param_meant, param_name}
use Rattle.elab_flat_names.proofs.declared.add_param_names.Given as goal

abbrev pub invariant-loop-param : goal.invariant-loop-param
invariant-loop-param l = map name_meant l.all.items ++ map param_name (map param_meant (drop l.param-index l.params)) ≡ map name_meant l.initial.all.items ++ map param_name (map param_meant l.params)
