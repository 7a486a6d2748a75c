use Rattle.std.proofs.Common.{◌≡◌, ◌++◌, drop, map}
use Rattle.std.specs.List.{flat_map}
use Rattle.elab_flat_faults.specs.Texts.{inner_exprs}
use Rattle.elab_flat_scopes.specs.Borrowed.{inner_meant}
use Rattle.elab_flat_names.specs.Exprs.{expr_meant}
use Rattle.elab_flat_names.proofs.exprs.add_inners.Given as goal

abbrev pub invariant-loop-inner : goal.invariant-loop-inner
invariant-loop-inner l = map expr_meant l.all.items ++ flat_map inner_exprs (map inner_meant (drop l.inner-index l.instances)) ≡ map expr_meant l.initial.all.items ++ flat_map inner_exprs (map inner_meant l.instances)
