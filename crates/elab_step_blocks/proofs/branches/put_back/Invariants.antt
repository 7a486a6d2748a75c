use Rattle.std.proofs.Common.{◌≡◌, take}
use Rattle.elab_step_blocks.specs.Saving.{put_back}
use Rattle.elab_step_blocks.proofs.branches.put_back.Given as goal

abbrev pub invariant-loop-one : goal.invariant-loop-one
invariant-loop-one l = l.leaves ≡ put_back l.fn.leaves (take l.one-index l.nodes)
