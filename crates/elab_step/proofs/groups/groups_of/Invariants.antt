use Rattle.std.proofs.Common.{take}
use Rattle.elab_flat_graphs.specs.Graphs.{graph_of}
use Rattle.elab_step.specs.Groups.{IsGrouping}
use Rattle.elab_step.proofs.groups.groups_of.Given as goal

abbrev pub invariant-loop-net : goal.invariant-loop-net
invariant-loop-net l = IsGrouping (graph_of l.graph) (graph_of l.places) (take l.net-index l.order) l.groups
