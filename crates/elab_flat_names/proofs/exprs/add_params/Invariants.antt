use Rattle.std.proofs.Common.{◌≡◌, ◌++◌, drop, map}
use Rattle.std.specs.List.{flat_map}
use Rattle.elab_flat_faults.specs.Texts.{param_exprs}
use Rattle.elab_flat_scopes.specs.Borrowed.{param_meant}
use Rattle.elab_flat_names.specs.Exprs.{expr_meant}
use Rattle.elab_flat_names.proofs.exprs.add_params.Given as goal

abbrev pub invariant-loop-param : goal.invariant-loop-param
invariant-loop-param l = map expr_meant l.all.items ++ flat_map param_exprs (map param_meant (drop l.param-index l.params)) ≡ map expr_meant l.initial.all.items ++ flat_map param_exprs (map param_meant l.params)
