use Rattle.std.proofs.Common.{◌≡◌, drop, Some}
use Rattle.elab_flat_graphs.specs.Walks.{walk_end}
use Rattle.elab_flat_instances.specs.Graph.{graph_of}
use Rattle.elab_flat_instances.specs.Naming.{IsAtNode}
use Rattle.elab_flat_instances.proofs.recursion.prefix_along.Given as goal

abbrev pub invariant-loop-edge : goal.invariant-loop-edge
invariant-loop-edge l = record {
  at : IsAtNode l.modules l.top l.prefix l.node;
  rest : walk_end (graph_of l.modules) (Some l.node) (drop l.edge-index l.walk) ≡ walk_end (graph_of l.modules) (Some l.start) l.walk;
}
