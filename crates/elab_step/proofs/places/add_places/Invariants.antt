use Rattle.std.proofs.Common.{◌≡◌, drop, length, map}
use Rattle.elab_flat_scopes.specs.Borrowed.{name_meant}
use Rattle.elab_flat_graphs.specs.Graphs.{graph_of}
use Rattle.elab_step.specs.Placing.{all_placed}
use Rattle.elab_step.proofs.places.add_places.Given as goal

abbrev pub invariant-loop-name : goal.invariant-loop-name
invariant-loop-name l = record {
  same : length l.lists.items ≡ length l.initial.lists.items;
  placed : all_placed l.names l.place (map name_meant (drop l.name-index l.assigned)) (graph_of l.lists.items) ≡ all_placed l.names l.place (map name_meant l.assigned) (graph_of l.initial.lists.items);
}
