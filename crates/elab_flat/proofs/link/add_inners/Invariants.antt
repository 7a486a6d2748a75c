use Rattle.std.proofs.Common.{◌≡◌, ◌++◌, List, Some, drop, map}
use Rattle.std.specs.List.{flat_map}
use Rattle.vlog_tree.specs.declared.module.Module.{Module}
use Rattle.vlog_tree_runs.specs.Scopes.{child, inner_links}
use Rattle.elab_flat_laws.specs.Flattened.{moved_link}
use Rattle.elab_flat_scopes.specs.Borrowed.{inner_meant}
use Rattle.elab_flat_instances.specs.Unfolding.{scope_meant}
use Rattle.elab_flat.proofs.link.add_inners.Given as goal

abbrev pub invariant-loop-instance : goal.invariant-loop-instance
invariant-loop-instance l = record {
  place : l.at ≡ l.instance-index;
  rest : (ms : List Module) → map Some (map scope_meant l.inners) ≡ map (child ms (scope_meant l.outer)) (map inner_meant l.instances) →
      map Some (map scope_meant (drop l.instance-index l.inners)) ≡ map (child ms (scope_meant l.outer)) (map inner_meant (drop l.instance-index l.instances));
  links : (ms : List Module) → map Some (map scope_meant l.inners) ≡ map (child ms (scope_meant l.outer)) (map inner_meant l.instances) →
      l.all ++ map moved_link (flat_map (inner_links ms (scope_meant l.outer)) (map inner_meant (drop l.instance-index l.instances)))
      ≡ l.initial.all ++ map moved_link (flat_map (inner_links ms (scope_meant l.outer)) (map inner_meant l.instances));
}
