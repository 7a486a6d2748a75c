use Rattle.std.proofs.Common.{◌∙◌}
use Rattle.vlog_tree.specs.declared.expr.Expr.TheVariants as e
use Rattle.elab_flat_move.proofs.Exprs.{part_some, part_none}
use Rattle.elab_flat_move.proofs.Pairs.{made, handed}
use Rattle.elab_flat_move.proofs.expr.Mover.part.Goals as goal

pub returns-in-Some : goal.returns-in-Some
returns-in-Some c = part_some _ _ _ _ _ _ _ _ c.meaning.ensures c.in-Some.is

pub returns-in_ok-name-in-None : goal.returns-in_ok-name-in-None
returns-in_ok-name-in-None c =
    let same = handed _ _ c.in_ok-name-in-None.ensures.second in
    (λ z. e.Part c.in_ok-name-in-None.name c.args.span ((same z).0) ((same z).1))
    ∙ part_none _ _ _ _ _ _ _ _ c.meaning.ensures c.in-None.is (made _ _ _ c.in_ok-name-in-None.ensures.first c.under.ensures)
