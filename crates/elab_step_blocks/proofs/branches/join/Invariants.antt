use Rattle.std.proofs.Common.{take}
use Rattle.elab_step_blocks.proofs.Saving.{Joining}
use Rattle.elab_step_blocks.proofs.branches.join.Given as goal

abbrev pub invariant-loop-other : goal.invariant-loop-other
invariant-loop-other l = Joining l.condition (take l.other-index l.others) l.fn.state l.fn.dag l.state l.dag
