use Rattle.std.proofs.Common.{take}
use Rattle.elab_step_flow.specs.Branches.{SpotsAdded}
use Rattle.elab_step_flow.specs.Sets.{tables}
use Rattle.elab_step_flow.proofs.branches.add_spots.Given as goal

abbrev pub invariant-loop-place : goal.invariant-loop-place
invariant-loop-place l = SpotsAdded (take l.place-index l.places) (tables l.flow) l.initial.all.items l.all.items
