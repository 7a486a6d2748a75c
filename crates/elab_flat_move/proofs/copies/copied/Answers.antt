use Rattle.std.proofs.Common.{[], List, ap, ◌∙◌}
use Rattle.std.proofs.lemmas.Result.{IfOk-weaker}
use Rattle.vlog_tree.specs.declared.valuation.Entry.{Entry}
use Rattle.elab_flat_laws.specs.Moved.{moved}
use Rattle.elab_flat_move.proofs.Copying.{copy_is}
use Rattle.elab_flat_move.proofs.copies.copied.Goals as goal

pub returns : goal.returns
returns c =
    IfOk-weaker c.moved_expr-2.result _ _ (λ r h. h ∙ (ap (λ (ps : List Entry). moved [] ps c.args.expr.now) c.new.ensures ∙ copy_is c.args.expr.now)) c.moved_expr-2.ensures
