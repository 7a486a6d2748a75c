use Rattle.std.proofs.Common.{◌≡◌, take}
use Rattle.elab_step_blocks.specs.Saving.{saved_at}
use Rattle.elab_step_blocks.proofs.branches.saved_at.Given as goal

abbrev pub invariant-loop-place : goal.invariant-loop-place
invariant-loop-place l = l.nodes.items ≡ saved_at l.leaves (take l.place-index l.places)
