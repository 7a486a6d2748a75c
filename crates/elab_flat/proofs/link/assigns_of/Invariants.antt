use Rattle.std.proofs.Common.{◌≡◌, ◌≤◌, ◌++◌, List, Some, drop, length, map}
use Rattle.std.specs.List.{flat_map}
use Rattle.vlog_tree.specs.declared.module.Module.{Module}
use Rattle.elab_flat_laws.specs.Flattened.{flat_assigns}
use Rattle.elab_flat_instances.specs.Unfolding.{scope_meant}
use Rattle.elab_flat.specs.Following.{inner_scopes, AreFollowed}
use Rattle.elab_flat.proofs.link.assigns_of.Given as goal

abbrev pub invariant-loop-scope : goal.invariant-loop-scope
invariant-loop-scope l = record {
  within : l.next ≤ length l.scopes;
  follow : (ms : List Module) → AreFollowed ms (map scope_meant l.scopes) → map Some (map scope_meant (drop l.next l.scopes)) ≡ flat_map (inner_scopes ms) (map scope_meant (drop l.scope-index l.scopes));
  links : (ms : List Module) → AreFollowed ms (map scope_meant l.scopes) →
      l.all ++ flat_map (flat_assigns ms) (map scope_meant (drop l.scope-index l.scopes)) ≡ flat_map (flat_assigns ms) (map scope_meant l.scopes);
}
