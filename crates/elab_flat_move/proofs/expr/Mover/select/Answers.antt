use Rattle.std.proofs.Common.{ap, ◌∙◌}
use Rattle.vlog_tree.specs.declared.expr.Expr.TheVariants as e
use Rattle.elab_flat_move.proofs.Exprs.{select_some, select_none}
use Rattle.elab_flat_move.proofs.Pairs.{made, handed}
use Rattle.elab_flat_move.proofs.expr.Mover.select.Goals as goal

pub returns-in-Some : goal.returns-in-Some
returns-in-Some c = select_some _ _ _ _ _ _ c.meaning.ensures c.in-Some.is

pub returns-in_ok-name-in-None : goal.returns-in_ok-name-in-None
returns-in_ok-name-in-None c =
    ap (e.Select c.in_ok-name-in-None.name) (handed _ _ c.in_ok-name-in-None.ensures.second)
    ∙ select_none _ _ _ _ _ _ c.meaning.ensures c.in-None.is (made _ _ _ c.in_ok-name-in-None.ensures.first c.under.ensures)
