use Rattle.std.proofs.Common.{◌≡◌, ◌++◌, drop}
use Rattle.mem_flat.proofs.module.copied_asyncs.Given as goal

abbrev pub invariant-loop-reset : goal.invariant-loop-reset
invariant-loop-reset l = l.all ++ drop l.reset-index l.asyncs ≡ l.asyncs
