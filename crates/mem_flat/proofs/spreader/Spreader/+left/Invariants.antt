use Rattle.std.proofs.Common.{◌≡◌, ◌++◌, drop, map}
use Rattle.mem_laws.specs.Spread.{spread_left}
use Rattle.mem_flat.proofs.spreader.Spreader.+left.Given as goal

abbrev pub invariant-lefts-loop-left : goal.invariant-lefts-loop-left
invariant-lefts-loop-left l = l.all ++ map (spread_left l.self.rest.now) (drop l.left-index l.lefts) ≡ map (spread_left l.self.rest.now) l.lefts
