-- What each form of a statement does with expressions, as the code reads it.
use Rattle.std.proofs.Common.{◌≡◌, List, ◌∷◌, ◌++◌, refl, sym, ap, ◌∙◌}
use Rattle.std.specs.List.{flat_map}
use Rattle.vlog_tree.specs.declared.expr.Expr.{Expr}
use Rattle.vlog_tree.specs.declared.stmt.CaseItem.{CaseItem}
use Rattle.vlog_tree.specs.declared.stmt.CaseKind.{CaseKind}
use Rattle.vlog_tree.specs.declared.stmt.Stmt.{Stmt, Row_of-Stmt, end_of-Stmt, more_of-Stmt, items-the_row-Stmt, items_hidden-the_row-Stmt-0, Row_of-CaseItem, end_of-CaseItem, more_of-CaseItem, items-the_row-CaseItem, items_hidden-the_row-CaseItem-2}
use Rattle.vlog_tree.specs.declared.stmt.Stmt.TheVariants as s
use Rattle.vlog_tree.specs.declared.stmt.Stmt.TheBlock.{hidden-the_row-Stmt-0, shape-the_row-Stmt-1, hidden-the_row-Stmt-1, hidden-the_row-CaseItem-2}
use Rattle.vlog_tree_runs.specs.Blocks.{exprs_in}
use Rattle.elab_flat_faults.specs.Texts.{all_labels_in}
use Rattle.elab_flat_widths.specs.Usages.{Usage, Tests, Compares, usages, row_usages, case_usages, item_usages, item_labels}
use denote.Hole.Carrier

rows : (m : _) (row : Row_of-Stmt m) → row_usages row ≡ flat_map usages (items-the_row-Stmt m row)
rows m end_of-Stmt = refl
rows m (more_of-Stmt a rest) = ap (λ xs. usages a ++ xs) (rows _ rest)

items : (m : _) (row : Row_of-CaseItem m) → case_usages row ≡ flat_map item_usages (items-the_row-CaseItem m row)
items m end_of-CaseItem = refl
items m (more_of-CaseItem labels body rest) = ap (λ xs. usages body ++ xs) (items _ rest)

labels_are : (m : _) (row : Row_of-CaseItem m) → all_labels_in row ≡ flat_map item_labels (items-the_row-CaseItem m row)
labels_are m end_of-CaseItem = refl
labels_are m (more_of-CaseItem labels body rest) = ap (λ xs. exprs_in labels ++ xs) (labels_are _ rest)

abbrev cased : Expr → List Expr → Usage
cased a labels = Compares (record { value = a; labels = labels })

pub block_usages : (n : _) (xs ys : List Stmt) (tree : Stmt) → tree ≡ s.Block n xs → ys ≡ xs → flat_map usages ys ≡ usages tree
block_usages n xs ys tree is same =
    sym (ap usages is ∙ rows _ (hidden-the_row-Stmt-0 xs) ∙ ap (flat_map usages) (items_hidden-the_row-Stmt-0 xs ∙ sym same))

pub if_usages : (a : Expr) (x y tree : Stmt) → tree ≡ s.If a x → y ≡ x → Tests a ∷ usages y ≡ usages tree
unfolding shape-the_row-Stmt-1 hidden-the_row-Stmt-1 denote.Hole.Carrier.hidden
if_usages a x y tree is same = ap (λ z. Tests a ∷ usages z) same ∙ sym (ap usages is)

pub if_else_usages : (a : Expr) (x y w z tree : Stmt) → tree ≡ s.IfElse a x w → y ≡ x → z ≡ w → Tests a ∷ (usages y ++ usages z) ≡ usages tree
unfolding shape-the_row-Stmt-1 hidden-the_row-Stmt-1 denote.Hole.Carrier.hidden
if_else_usages a x y w z tree is same other = (λ i. Tests a ∷ (usages (same i) ++ usages (other i))) ∙ sym (ap usages is)

pub case_usages_are : (kind : CaseKind) (a : Expr) (xs ys : List CaseItem) (tree : Stmt) → tree ≡ s.Case kind a xs → ys ≡ xs →
    cased a (flat_map item_labels ys) ∷ flat_map item_usages ys ≡ usages tree
case_usages_are kind a xs ys tree is same =
    sym (ap usages is ∙ ((λ i. cased a (labels_are _ (hidden-the_row-CaseItem-2 xs) i) ∷ items _ (hidden-the_row-CaseItem-2 xs) i)
    ∙ ap (λ zs. cased a (flat_map item_labels zs) ∷ flat_map item_usages zs) (items_hidden-the_row-CaseItem-2 xs ∙ sym same)))
