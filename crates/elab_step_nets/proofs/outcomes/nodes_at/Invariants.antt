use Rattle.std.proofs.Common.{◌≡◌, map, take}
use Rattle.elab_step_blocks.specs.Saving.{node_at}
use Rattle.elab_step_nets.proofs.outcomes.nodes_at.Given as goal

abbrev pub invariant-loop-place : goal.invariant-loop-place
invariant-loop-place l = l.nodes.items ≡ map (node_at l.leaves) (take l.place-index l.places)
