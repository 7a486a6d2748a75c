use Rattle.std.proofs.Common.{◌≡◌, ◌+◌, drop, length}
use Rattle.elab_flat_graphs.specs.Graphs.{graph_of}
use Rattle.elab_step.specs.Placing.{blocks_placed}
use Rattle.elab_step.proofs.places.add_blocks.Given as goal

abbrev pub invariant-loop-i : goal.invariant-loop-i
invariant-loop-i l = record {
  same : length l.lists.items ≡ length l.initial.lists.items;
  placed : blocks_placed l.names (l.first + l.i) (drop l.i l.blocks) (graph_of l.lists.items) ≡ blocks_placed l.names l.first l.blocks (graph_of l.initial.lists.items);
}
