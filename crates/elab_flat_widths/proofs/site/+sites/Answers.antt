use Rattle.std.proofs.Common.{refl}
use Rattle.elab_flat_drivers.proofs.Growing.{ok_then, added, twice, same_end}
use Rattle.elab_flat_widths.specs.Sites.{site_meant}
use Rattle.elab_flat_widths.proofs.Forms.{block_usages, if_usages, if_else_usages, case_usages_are}
use Rattle.elab_flat_widths.proofs.site.+sites.Goals as goal

pub add_sites-returns-in-Block : goal.add_sites-returns-in-Block
add_sites-returns-in-Block t c =
    ok_then c.add_stmts.result _ _ c.add_stmts.ensures (λ h. same_end site_meant _ _ _ _ h (block_usages _ _ _ _ c.in-Block.is c.as_slice.ensures))

pub add_sites-returns-in_ok-push-in-If : goal.add_sites-returns-in_ok-push-in-If
add_sites-returns-in_ok-push-in-If t c =
    ok_then c.add_sites.result _ _ c.add_sites.ensures
    (λ h. added site_meant _ _ _ _ _ _ c.in_ok-push-in-If.ensures.items h (if_usages _ _ _ _ c.in-If.is c.get.ensures))

pub add_sites-returns-in_ok-add_sites-in-IfElse : goal.add_sites-returns-in_ok-add_sites-in-IfElse
add_sites-returns-in_ok-add_sites-in-IfElse t c =
    ok_then c.add_sites-in-IfElse-2.result _ _ c.add_sites-in-IfElse-2.ensures
    (λ h. added site_meant _ _ _ _ _ _ c.in_ok-push-in-IfElse.ensures.items (twice site_meant _ _ _ _ _ _ c.in_ok-add_sites-in-IfElse.ensures h refl)
    (if_else_usages _ _ _ _ _ _ c.in-IfElse.is c.get-in-IfElse.ensures c.get-in-IfElse-2.ensures))

pub add_sites-returns-in_ok-push-in-Case : goal.add_sites-returns-in_ok-push-in-Case
add_sites-returns-in_ok-push-in-Case t c =
    ok_then c.add_items.result _ _ c.add_items.ensures
    (λ h. added site_meant _ _ _ _ _ _ c.in_ok-push-in-Case.ensures.items h (case_usages_are _ _ _ _ _ c.in-Case.is c.as_slice-items.ensures))
