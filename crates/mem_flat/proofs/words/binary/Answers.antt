use Rattle.vlog_tree.specs.declared.expr.Expr.TheVariants as e
use Rattle.elab_flat_move.proofs.Pairs.{made}
use Rattle.mem_flat.proofs.words.binary.Goals as goal

pub returns : goal.returns
returns c = λ z. e.Binary c.args.op (made _ _ _ c.in_ok-a.ensures.first c.new.ensures z) (made _ _ _ c.in_ok-a.ensures.second c.new-2.ensures z)
