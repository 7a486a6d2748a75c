use Rattle.std.proofs.Common.{◌≡◌, ◌++◌, drop, map}
use Rattle.mem_laws.specs.Spread.{spread_assign}
use Rattle.mem_flat.proofs.spreader.Spreader.assigns.Given as goal

abbrev pub invariant-loop-assign : goal.invariant-loop-assign
invariant-loop-assign l = l.all ++ map (spread_assign l.self.rest.now) (drop l.assign-index l.assigns) ≡ map (spread_assign l.self.rest.now) l.assigns
