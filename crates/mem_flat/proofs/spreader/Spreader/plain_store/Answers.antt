use Rattle.vlog_tree.specs.declared.stmt.Stmt.TheVariants as s
use Rattle.elab_flat_move.proofs.Pairs.{made, handed}
use Rattle.mem_flat.proofs.spreader.Spreader.plain_store.Goals as goal

pub returns : goal.returns
returns c = λ z. s.Nonblocking (made _ _ _ c.in_ok-left.ensures.first c.left.ensures z) (handed _ _ c.in_ok-left.ensures.second z)
