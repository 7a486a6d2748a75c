use Rattle.std.proofs.Common.{◌≡◌, drop, length}
use Rattle.elab_flat_graphs.specs.Graphs.{graph_of}
use Rattle.elab_step.specs.Placing.{assigns_placed}
use Rattle.elab_step.proofs.places.add_assigns.Given as goal

abbrev pub invariant-loop-i : goal.invariant-loop-i
invariant-loop-i l = record {
  same : length l.lists.items ≡ length l.initial.lists.items;
  placed : assigns_placed l.names l.i (drop l.i l.assigns) (graph_of l.lists.items) ≡ assigns_placed l.names 0 l.assigns (graph_of l.initial.lists.items);
}
