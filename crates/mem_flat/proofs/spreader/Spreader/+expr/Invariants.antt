use Rattle.std.proofs.Common.{◌≡◌, ◌++◌, drop, map}
use Rattle.mem_laws.specs.Spread.{spread}
use Rattle.mem_flat.proofs.spreader.Spreader.+expr.Given as goal

abbrev pub invariant-exprs-loop-expr : goal.invariant-exprs-loop-expr
invariant-exprs-loop-expr l = l.all ++ map (spread l.self.rest.now) (drop l.expr-index l.exprs) ≡ map (spread l.self.rest.now) l.exprs
