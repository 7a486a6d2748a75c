use Rattle.std.proofs.Common.{refl}
use Rattle.elab_flat_drivers.specs.Pieces.{piece_meant}
use Rattle.elab_flat_drivers.proofs.Growing.{ok_then, added, twice, same_end}
use Rattle.elab_flat_drivers.proofs.Forms.{block_actions, if_actions, if_else_actions, case_actions_are}
use Rattle.elab_flat_drivers.proofs.pieces.+pieces.Goals as goal

pub add_pieces-returns-in-Block : goal.add_pieces-returns-in-Block
add_pieces-returns-in-Block t c =
    ok_then c.add_stmts.result _ _ c.add_stmts.ensures
    (λ h. same_end piece_meant _ _ _ _ h (block_actions _ _ _ _ c.in-Block.is c.as_slice.ensures))

pub add_pieces-returns-in_ok-push-in-If : goal.add_pieces-returns-in_ok-push-in-If
add_pieces-returns-in_ok-push-in-If t c =
    ok_then c.add_pieces.result _ _ c.add_pieces.ensures
    (λ h. added piece_meant _ _ _ _ _ _ c.in_ok-push-in-If.ensures.items h (if_actions _ _ _ _ c.in-If.is c.get.ensures))

pub add_pieces-returns-in_ok-add_pieces-in-IfElse : goal.add_pieces-returns-in_ok-add_pieces-in-IfElse
add_pieces-returns-in_ok-add_pieces-in-IfElse t c =
    ok_then c.add_pieces-in-IfElse-2.result _ _ c.add_pieces-in-IfElse-2.ensures
    (λ h. added piece_meant _ _ _ _ _ _ c.in_ok-push-in-IfElse.ensures.items (twice piece_meant _ _ _ _ _ _ c.in_ok-add_pieces-in-IfElse.ensures h refl)
    (if_else_actions _ _ _ _ _ _ c.in-IfElse.is c.get-in-IfElse.ensures c.get-in-IfElse-2.ensures))

pub add_pieces-returns-in_ok-push-in-Case : goal.add_pieces-returns-in_ok-push-in-Case
add_pieces-returns-in_ok-push-in-Case t c =
    ok_then c.add_items.result _ _ c.add_items.ensures
    (λ h. added piece_meant _ _ _ _ _ _ c.in_ok-push-in-Case.ensures.items h (case_actions_are _ _ _ _ _ c.in-Case.is c.as_slice-in-Case.ensures))
