use Rattle.std.proofs.Common.{drop}
use Rattle.vlog_tree_runs.specs.Places.{Name}
use Rattle.elab_step_flow.specs.Asked.{AnyMisses}
use Rattle.elab_step_flow.proofs.latch.missed_of.Given as goal

abbrev pub invariant-loop-block : goal.invariant-loop-block
invariant-loop-block l = (x : Name) → AnyMisses l.scope l.blocks x → AnyMisses l.scope (drop l.block-index l.blocks) x
