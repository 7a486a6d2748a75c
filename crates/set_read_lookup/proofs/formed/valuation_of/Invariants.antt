use Rattle.std.proofs.Common.{◌≡◌, ◌++◌, drop}
use Rattle.set_read_lookup.specs.Tests.{declared_entries}
use Rattle.set_read_lookup.proofs.formed.valuation_of.Given as goal

abbrev pub invariant-loop-declaration : goal.invariant-loop-declaration
invariant-loop-declaration l = l.valuation ++ declared_entries (drop l.declaration-index l.declarations) ≡ declared_entries l.declarations
