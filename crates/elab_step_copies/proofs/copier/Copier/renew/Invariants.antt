use Rattle.std.proofs.Common.{take}
use Rattle.elab_step_copies.proofs.Forgetting.{Renewing}
use Rattle.elab_step_copies.proofs.copier.Copier.renew.Given as goal

abbrev pub invariant-loop-place : goal.invariant-loop-place
invariant-loop-place l = Renewing l.fn.self l.self l.leaves (take l.place-index l.places)
