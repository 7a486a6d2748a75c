use Rattle.std.proofs.Common.{drop, Some}
use Rattle.elab_flat_graphs.specs.Walks.{walk_end}
use Rattle.elab_flat_graphs.proofs.Closing.{IsWalk, IsMet}
use Rattle.elab_flat_graphs.proofs.cycles.Search.cycle.Given as goal

abbrev pub invariant-loop-node : goal.invariant-loop-node
invariant-loop-node l = record {
  rest : IsWalk l.graph l.self.left.items (walk_end l.graph (Some l.self.start) l.walk.items) l.target (drop l.node-index l.node-items);
  met : IsMet l.graph l.self.start l.walk.items l.back l.target (drop l.node-index l.node-items);
}
