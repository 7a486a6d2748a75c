use Rattle.std.proofs.Common.{◌≡◌, take}
use Rattle.elab_step_blocks.specs.Saving.{saved_at, places_of}
use Rattle.elab_step_blocks.proofs.branches.saved_again.Given as goal

abbrev pub invariant-loop-one : goal.invariant-loop-one
invariant-loop-one l = l.nodes.items ≡ saved_at l.leaves (places_of (take l.one-index l.others))
