use Rattle.std.proofs.Common.{◌⊎◌, ◌↔◌, drop}
use Rattle.vlog_tree_runs.specs.Places.{Among}
use Rattle.elab_step_flow.specs.declared.edges.Edge.{Edge}
use Rattle.elab_step_flow.specs.Edges.{AnyBlockEdge}
use Rattle.elab_step_flow.proofs.edges.add_blocks_edges.Given as goal

abbrev pub invariant-loop-block : goal.invariant-loop-block
invariant-loop-block l = (e : Edge) → (Among l.all.items e ⊎ AnyBlockEdge l.scope (drop l.block-index l.blocks) e) ↔ (Among l.initial.all.items e ⊎ AnyBlockEdge l.scope l.blocks e)
