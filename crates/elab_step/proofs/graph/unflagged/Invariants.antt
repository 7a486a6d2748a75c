use Rattle.std.proofs.Common.{◌≡◌, ◌++◌, drop}
use Rattle.elab_step.specs.Ordering.{unflagged}
use Rattle.elab_step.proofs.graph.unflagged.Given as goal

abbrev pub invariant-loop-place : goal.invariant-loop-place
invariant-loop-place l = l.all.items ++ unflagged l.flags (drop l.place-index l.places) ≡ unflagged l.flags l.places
