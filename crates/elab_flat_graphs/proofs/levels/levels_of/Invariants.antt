use Rattle.elab_flat_graphs.specs.Graphs.{graph_of}
use Rattle.elab_flat_graphs.proofs.Levelling.{AreLevelsOf}
use Rattle.elab_flat_graphs.proofs.levels.levels_of.Given as goal

abbrev pub invariant-loop-i : goal.invariant-loop-i
invariant-loop-i l = AreLevelsOf (graph_of l.graph) l.order l.levels.items l.i
