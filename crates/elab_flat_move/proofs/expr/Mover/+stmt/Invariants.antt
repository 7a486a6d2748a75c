use Rattle.std.proofs.Common.{◌≡◌, ◌++◌, drop, map}
use Rattle.elab_flat_laws.specs.Moved.{moved_stmt}
use Rattle.elab_flat_move.specs.Cases.{moved_case}
use Rattle.elab_flat_move.proofs.expr.Mover.+stmt.Given as goal

abbrev pub invariant-stmts-loop-stmt : goal.invariant-stmts-loop-stmt
invariant-stmts-loop-stmt l = l.all ++ map (moved_stmt l.self.prefix.now l.self.params.now) (drop l.stmt-index l.stmts) ≡ map (moved_stmt l.self.prefix.now l.self.params.now) l.stmts

abbrev pub invariant-cases-loop-item : goal.invariant-cases-loop-item
invariant-cases-loop-item l = l.all ++ map (moved_case l.self.prefix.now l.self.params.now) (drop l.item-index l.items) ≡ map (moved_case l.self.prefix.now l.self.params.now) l.items
