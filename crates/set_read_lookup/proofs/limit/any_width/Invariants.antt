use Rattle.std.proofs.Common.{◌≡◌, drop}
use Rattle.std.specs.List.{list_any}
use Rattle.set_read_lookup.specs.Faults.{leaves_width}
use Rattle.set_read_lookup.proofs.limit.any_width.Given as goal

abbrev pub invariant-loop-declaration : goal.invariant-loop-declaration
invariant-loop-declaration l = list_any leaves_width (drop l.declaration-index l.declarations) ≡ list_any leaves_width l.declarations
