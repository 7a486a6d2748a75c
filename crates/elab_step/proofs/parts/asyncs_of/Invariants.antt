use Rattle.std.proofs.Common.{◌≡◌, ◌++◌, drop}
use Rattle.elab_step.proofs.parts.asyncs_of.Given as goal

abbrev pub invariant-loop-reset : goal.invariant-loop-reset
invariant-loop-reset l = l.all.items ++ drop l.reset-index l.asyncs ≡ l.asyncs
