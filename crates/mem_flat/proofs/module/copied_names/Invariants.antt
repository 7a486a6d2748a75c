use Rattle.std.proofs.Common.{◌≡◌, ◌++◌, drop}
use Rattle.mem_flat.proofs.module.copied_names.Given as goal

abbrev pub invariant-loop-name : goal.invariant-loop-name
invariant-loop-name l = l.all ++ drop l.name-index l.names ≡ l.names
