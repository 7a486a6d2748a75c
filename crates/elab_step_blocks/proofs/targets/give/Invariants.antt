use Rattle.std.proofs.Common.{drop}
use Rattle.elab_step_blocks.proofs.Giving.{Giving}
use Rattle.elab_step_blocks.proofs.targets.give.Given as goal

abbrev pub invariant-loop-target : goal.invariant-loop-target
invariant-loop-target l = Giving l.targets (drop l.target-index l.targets) l.value.node l.rest l.fn.state l.fn.dag l.state l.dag
