use Rattle.std.proofs.Common.{◌≡◌, ◌++◌, drop, map}
use Rattle.mem_laws.specs.Spread.{spread_stmt}
use Rattle.mem_flat.specs.Cases.{spread_case}
use Rattle.mem_flat.proofs.spreader.Spreader.+stmt.Given as goal

abbrev pub invariant-stmts-loop-stmt : goal.invariant-stmts-loop-stmt
invariant-stmts-loop-stmt l = l.all ++ map (spread_stmt l.self.rest.now) (drop l.stmt-index l.stmts) ≡ map (spread_stmt l.self.rest.now) l.stmts

abbrev pub invariant-cases-loop-item : goal.invariant-cases-loop-item
invariant-cases-loop-item l = l.all ++ map (spread_case l.self.rest.now) (drop l.item-index l.items) ≡ map (spread_case l.self.rest.now) l.items
