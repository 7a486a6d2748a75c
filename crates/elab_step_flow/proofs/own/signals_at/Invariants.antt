use Rattle.std.proofs.Common.{drop}
use Rattle.elab_step_flow.proofs.Choosing.{Copied}
use Rattle.elab_step_flow.proofs.own.signals_at.Given as goal

abbrev pub invariant-loop-place : goal.invariant-loop-place
invariant-loop-place l = Copied l.signals l.places (drop l.place-index l.places) l.copies.items
