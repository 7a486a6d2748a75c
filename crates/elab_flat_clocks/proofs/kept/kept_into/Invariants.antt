use Rattle.std.proofs.Common.{◌≡◌, ◌++◌, drop, map}
use Rattle.elab_flat_scopes.specs.Borrowed.{inner_meant}
use Rattle.elab_flat_instances.specs.Unfolding.{scope_meant}
use Rattle.elab_flat_names.specs.Exprs.{expr_meant}
use Rattle.elab_flat_clocks.specs.Passing.{kept_into}
use Rattle.elab_flat_clocks.proofs.kept.kept_into.Given as goal

abbrev pub invariant-loop-inner : goal.invariant-loop-inner
invariant-loop-inner l = record {
  place : l.at ≡ l.inner-index;
  made : map expr_meant l.all.items ++ kept_into (map inner_meant (drop l.inner-index l.instances)) (map scope_meant (drop l.inner-index l.scopes)) ≡ kept_into (map inner_meant l.instances) (map scope_meant l.scopes);
}
