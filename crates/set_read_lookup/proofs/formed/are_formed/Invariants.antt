use Rattle.std.proofs.Common.{drop}
use Rattle.set_read_lookup.specs.Tests.{IsPresent}
use Rattle.set_read_lookup.proofs.Judged.{Decides}
use Rattle.set_read_lookup.proofs.formed.are_formed.Given as goal

abbrev pub invariant-loop-formula : goal.invariant-loop-formula
invariant-loop-formula l = Decides (IsPresent l.valuation) (drop l.formula-index l.formulas) l.formulas
