use Rattle.std.proofs.Common.{◌≡◌, drop}
use Rattle.set_read_lookup.specs.Faults.{is_declared}
use Rattle.set_read_lookup.proofs.names.is_declared.Given as goal

abbrev pub invariant-loop-declaration : goal.invariant-loop-declaration
invariant-loop-declaration l = is_declared (drop l.declaration-index l.declarations) l.name ≡ is_declared l.declarations l.name
