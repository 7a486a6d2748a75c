use Rattle.std.proofs.Common.{drop}
use Rattle.std.specs.List.{flat_map}
use Rattle.set_read_lookup.specs.Formed.{formulas_of}
use Rattle.set_read_lookup.specs.Tests.{IsPresent}
use Rattle.set_read_lookup.proofs.Judged.{Decides}
use Rattle.set_read_lookup.proofs.formed.operations_are.Given as goal

abbrev pub invariant-loop-operation : goal.invariant-loop-operation
invariant-loop-operation l = Decides (IsPresent l.valuation) (flat_map formulas_of (drop l.operation-index l.operations)) (flat_map formulas_of l.operations)
