-- What stands in each form of a statement, as the code reads it.
use Rattle.std.proofs.Common.{◌≡◌, List, ◌∷◌, ◌++◌, refl, sym, ap, ◌∙◌}
use Rattle.std.specs.List.{flat_map}
use Rattle.vlog_tree.specs.declared.expr.Expr.{Expr}
use Rattle.vlog_tree.specs.declared.stmt.CaseItem.{CaseItem}
use Rattle.vlog_tree.specs.declared.stmt.CaseKind.{CaseKind}
use Rattle.vlog_tree.specs.declared.stmt.Stmt.{Stmt, Row_of-Stmt, end_of-Stmt, more_of-Stmt, items-the_row-Stmt, items_hidden-the_row-Stmt-0, Row_of-CaseItem, end_of-CaseItem, more_of-CaseItem, items-the_row-CaseItem, items_hidden-the_row-CaseItem-2}
use Rattle.vlog_tree.specs.declared.stmt.Stmt.TheVariants as s
use Rattle.vlog_tree.specs.declared.stmt.Stmt.TheBlock.{hidden-the_row-Stmt-0, shape-the_row-Stmt-1, hidden-the_row-Stmt-1, hidden-the_row-CaseItem-2}
use Rattle.elab_flat_drivers.specs.Pieces.{Tests, actions, row_actions, case_actions, item_actions}
use denote.Hole.Carrier

rows : (m : _) (row : Row_of-Stmt m) → row_actions row ≡ flat_map actions (items-the_row-Stmt m row)
rows m end_of-Stmt = refl
rows m (more_of-Stmt a rest) = ap (λ xs. actions a ++ xs) (rows _ rest)

items : (m : _) (row : Row_of-CaseItem m) → case_actions row ≡ flat_map item_actions (items-the_row-CaseItem m row)
items m end_of-CaseItem = refl
items m (more_of-CaseItem labels body rest) = ap (λ xs. (item_actions (record { labels = labels; body = body })) ++ xs) (items _ rest)

pub block_actions : (n : _) (xs ys : List Stmt) (tree : Stmt) → tree ≡ s.Block n xs → ys ≡ xs → flat_map actions ys ≡ actions tree
block_actions n xs ys tree is same =
    sym (ap actions is ∙ rows _ (hidden-the_row-Stmt-0 xs) ∙ ap (flat_map actions) (items_hidden-the_row-Stmt-0 xs ∙ sym same))

pub if_actions : (a : Expr) (x y tree : Stmt) → tree ≡ s.If a x → y ≡ x → Tests a ∷ actions y ≡ actions tree
unfolding shape-the_row-Stmt-1 hidden-the_row-Stmt-1 denote.Hole.Carrier.hidden
if_actions a x y tree is same = ap (λ z. Tests a ∷ actions z) same ∙ sym (ap actions is)

pub if_else_actions : (a : Expr) (x y w z tree : Stmt) → tree ≡ s.IfElse a x w → y ≡ x → z ≡ w → Tests a ∷ (actions y ++ actions z) ≡ actions tree
unfolding shape-the_row-Stmt-1 hidden-the_row-Stmt-1 denote.Hole.Carrier.hidden
if_else_actions a x y w z tree is same other = (λ i. Tests a ∷ (actions (same i) ++ actions (other i))) ∙ sym (ap actions is)

pub case_actions_are : (kind : CaseKind) (a : Expr) (xs ys : List CaseItem) (tree : Stmt) → tree ≡ s.Case kind a xs → ys ≡ xs → Tests a ∷ flat_map item_actions ys ≡ actions tree
case_actions_are kind a xs ys tree is same =
    sym (ap actions is ∙ ap (λ z. Tests a ∷ z) (items _ (hidden-the_row-CaseItem-2 xs) ∙ ap (flat_map item_actions) (items_hidden-the_row-CaseItem-2 xs ∙ sym same)))
