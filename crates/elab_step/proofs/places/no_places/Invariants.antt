use Rattle.std.proofs.Common.{◌≡◌, [], replicate}
use Rattle.elab_flat_graphs.specs.Graphs.{graph_of}
use Rattle.elab_step.proofs.places.no_places.Given as goal

abbrev pub invariant-loop-i : goal.invariant-loop-i
invariant-loop-i l = graph_of l.all.items ≡ replicate l._i []
