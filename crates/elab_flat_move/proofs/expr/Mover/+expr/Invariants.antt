use Rattle.std.proofs.Common.{◌≡◌, ◌++◌, drop, map}
use Rattle.elab_flat_laws.specs.Moved.{moved}
use Rattle.elab_flat_move.proofs.expr.Mover.+expr.Given as goal

abbrev pub invariant-exprs-loop-expr : goal.invariant-exprs-loop-expr
invariant-exprs-loop-expr l = l.all ++ map (moved l.self.prefix.now l.self.params.now) (drop l.expr-index l.exprs) ≡ map (moved l.self.prefix.now l.self.params.now) l.exprs
