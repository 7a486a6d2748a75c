use Rattle.std.proofs.Common.{◌≡◌, map, take}
use Rattle.elab_step_blocks.specs.declared.branches.Saved.{Saved}
use Rattle.elab_step_blocks.specs.Saving.{places_of}
use Rattle.elab_step_nets.proofs.nets.saved_for.Given as goal

abbrev pub invariant-loop-k : goal.invariant-loop-k
invariant-loop-k l = (places_of l.saved.items ≡ take l.k l.places) × (map (λ (s : Saved). s.node) l.saved.items ≡ take l.k l.nodes)
