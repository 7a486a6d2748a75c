use Rattle.std.proofs.Common.{drop}
use Rattle.elab_step_nets.proofs.Edges.{Running}
use Rattle.elab_step_nets.proofs.edge.run_clocked.Given as goal

abbrev pub invariant-loop-block : goal.invariant-loop-block
invariant-loop-block l = Running l.flat (drop l.block-index l.flat.blocks) l.now l.fn.dag l.next l.dag
