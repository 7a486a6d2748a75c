use Rattle.std.proofs.Common.{◌≡◌, map, take}
use Rattle.elab_flat_scopes.specs.Borrowed.{inner_meant}
use Rattle.elab_flat_instances.specs.Unfolding.{scope_meant, AreChildren}
use Rattle.elab_flat_instances.proofs.unfold.children_of.Given as goal

abbrev pub invariant-loop-inner : goal.invariant-loop-inner
invariant-loop-inner l = record {
  place : l.at ≡ l.inner-index;
  made : AreChildren l.modules (scope_meant l.outer) 0 (map inner_meant (take l.inner-index l.instances)) (map scope_meant l.all.items);
}
