use Rattle.std.proofs.Common.{drop}
use Rattle.vlog_tree_runs.specs.Places.{Name}
use Rattle.elab_step_flow.specs.Asked.{AnyReadsUnlisted}
use Rattle.elab_step_flow.proofs.listed.unlisted_of.Given as goal

abbrev pub invariant-loop-block : goal.invariant-loop-block
invariant-loop-block l = (x : Name) → AnyReadsUnlisted l.scope l.blocks x → AnyReadsUnlisted l.scope (drop l.block-index l.blocks) x
