use Rattle.vlog_tree.specs.declared.stmt.Stmt.TheVariants as s
use Rattle.elab_flat_move.proofs.Pairs.{made}
use Rattle.elab_flat_move.proofs.expr.Mover.blocking.Goals as goal

pub returns : goal.returns
returns c = λ z. s.Blocking (made _ _ _ c.in_ok-left.ensures.first c.left.ensures z) (made _ _ _ c.in_ok-left.ensures.second c.expr.ensures z)
