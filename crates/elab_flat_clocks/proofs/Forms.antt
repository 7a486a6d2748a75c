-- The forms of expressions and statements, as the code reads them.
use Rattle.std.proofs.Common.{◌≡◌, List, Option, Some, None, refl, sym, ap, ◌∙◌}
use Rattle.vlog_tree.specs.declared.expr.Binary.{Binary}
use Rattle.vlog_tree.specs.declared.expr.Cast.{Cast}
use Rattle.vlog_tree.specs.declared.expr.Constant.{Constant}
use Rattle.vlog_tree.specs.declared.expr.Expr.{Expr}
use Rattle.vlog_tree.specs.declared.expr.Expr.TheVariants as e
use Rattle.vlog_tree.specs.declared.expr.Expr.TheBlock.{shape-the_row-Expr-0, hidden-the_row-Expr-0, shape-the_row-Expr-1, hidden-the_row-Expr-1}
use Rattle.vlog_tree.specs.declared.expr.Name.{Name as Read}
use Rattle.vlog_tree.specs.declared.expr.Span.{Span}
use Rattle.vlog_tree.specs.declared.expr.Unary.{Unary}
use Rattle.vlog_tree.specs.declared.stmt.CaseItem.{CaseItem}
use Rattle.vlog_tree.specs.declared.stmt.CaseKind.{CaseKind}
use Rattle.vlog_tree.specs.declared.stmt.Stmt.{Stmt, Row_of-Stmt, end_of-Stmt, more_of-Stmt, items-the_row-Stmt, items_hidden-the_row-Stmt-0}
use Rattle.vlog_tree.specs.declared.stmt.Stmt.TheVariants as s
use Rattle.vlog_tree.specs.declared.stmt.Stmt.TheBlock.{hidden-the_row-Stmt-0, shape-the_row-Stmt-1, hidden-the_row-Stmt-1}
use Rattle.elab_flat_faults.specs.Clocks.{only_of, condition_of}
use Rattle.elab_flat_clocks.specs.Heads.{IsUnary, IsBinary, IsOther, head_of}
use Rattle.elab_flat_clocks.specs.Timings.{condition_alone, only_in}
use denote.Hole.Carrier

pub unary_head : (op : Unary) (a x tree : Expr) → tree ≡ e.Unary op a → x ≡ a → IsUnary op x ≡ head_of tree
unfolding shape-the_row-Expr-0 hidden-the_row-Expr-0 denote.Hole.Carrier.hidden
unary_head op a x tree is same = ap (IsUnary op) same ∙ sym (ap head_of is)

pub binary_head : (op : Binary) (a b x y tree : Expr) → tree ≡ e.Binary op a b → x ≡ a → y ≡ b → IsBinary op x y ≡ head_of tree
unfolding shape-the_row-Expr-0 hidden-the_row-Expr-0 denote.Hole.Carrier.hidden
binary_head op a b x y tree is same other = (λ i. IsBinary op (same i) (other i)) ∙ sym (ap head_of is)

pub select_other : (n : Read) (a : Expr) (tree : Expr) → tree ≡ e.Select n a → IsOther ≡ head_of tree
unfolding shape-the_row-Expr-0 hidden-the_row-Expr-0 denote.Hole.Carrier.hidden
select_other n a tree is = sym (ap head_of is)

pub part_other : (n : Read) (s : Span) (a b : Expr) (tree : Expr) → tree ≡ e.Part n s a b → IsOther ≡ head_of tree
unfolding shape-the_row-Expr-0 hidden-the_row-Expr-0 denote.Hole.Carrier.hidden
part_other n s a b tree is = sym (ap head_of is)

pub constant_select_other : (k : Constant) (a : Expr) (tree : Expr) → tree ≡ e.ConstantSelect k a → IsOther ≡ head_of tree
unfolding shape-the_row-Expr-0 hidden-the_row-Expr-0 denote.Hole.Carrier.hidden
constant_select_other k a tree is = sym (ap head_of is)

pub constant_part_other : (k : Constant) (s : Span) (a b : Expr) (tree : Expr) → tree ≡ e.ConstantPart k s a b → IsOther ≡ head_of tree
unfolding shape-the_row-Expr-0 hidden-the_row-Expr-0 denote.Hole.Carrier.hidden
constant_part_other k s a b tree is = sym (ap head_of is)

pub cast_other : (c : Cast) (a : Expr) (tree : Expr) → tree ≡ e.Cast c a → IsOther ≡ head_of tree
unfolding shape-the_row-Expr-0 hidden-the_row-Expr-0 denote.Hole.Carrier.hidden
cast_other c a tree is = sym (ap head_of is)

pub paren_other : (a : Expr) (tree : Expr) → tree ≡ e.Paren a → IsOther ≡ head_of tree
unfolding shape-the_row-Expr-0 hidden-the_row-Expr-0 denote.Hole.Carrier.hidden
paren_other a tree is = sym (ap head_of is)

pub concat_other : (xs : List Expr) (tree : Expr) → tree ≡ e.Concat xs → IsOther ≡ head_of tree
unfolding shape-the_row-Expr-0 hidden-the_row-Expr-0 shape-the_row-Expr-1 hidden-the_row-Expr-1 denote.Hole.Carrier.hidden
concat_other xs tree is = sym (ap head_of is)

pub repeat_other : (a : Expr) (xs : List Expr) (tree : Expr) → tree ≡ e.Repeat a xs → IsOther ≡ head_of tree
unfolding shape-the_row-Expr-0 hidden-the_row-Expr-0 shape-the_row-Expr-1 hidden-the_row-Expr-1 denote.Hole.Carrier.hidden
repeat_other a xs tree is = sym (ap head_of is)

pub choice_other : (c a b : Expr) (tree : Expr) → tree ≡ e.Choice c a b → IsOther ≡ head_of tree
unfolding shape-the_row-Expr-0 hidden-the_row-Expr-0 denote.Hole.Carrier.hidden
choice_other c a b tree is = sym (ap head_of is)

-- ---- statements

rows_only : (m : _) (row : Row_of-Stmt m) → only_of row ≡ only_in (items-the_row-Stmt m row)
rows_only m end_of-Stmt = refl
rows_only m (more_of-Stmt (s.IfElse' a h x g y) end_of-Stmt) = refl
rows_only m (more_of-Stmt (s.IfElse' a h x g y) (more_of-Stmt b rest)) = refl
rows_only m (more_of-Stmt a end_of-Stmt) = refl
rows_only m (more_of-Stmt a (more_of-Stmt b rest)) = refl

pub block_condition : (n : _) (xs ys : List Stmt) (tree : Stmt) (o : Option Expr) → tree ≡ s.Block n xs → ys ≡ xs → o ≡ only_in ys → o ≡ condition_of tree
block_condition n xs ys tree o is same g =
    g ∙ (ap only_in (same ∙ sym (items_hidden-the_row-Stmt-0 xs)) ∙ (sym (rows_only _ (hidden-the_row-Stmt-0 xs)) ∙ sym (ap condition_of is)))

pub block_alone : (n : _) (xs : List Stmt) (tree : Stmt) → tree ≡ s.Block n xs → None ≡ condition_alone tree
block_alone n xs tree is = sym (ap condition_alone is)

pub case_alone : (kind : CaseKind) (a : Expr) (xs : List CaseItem) (tree : Stmt) → tree ≡ s.Case kind a xs → None ≡ condition_alone tree
case_alone kind a xs tree is = sym (ap condition_alone is)

pub case_condition : (kind : CaseKind) (a : Expr) (xs : List CaseItem) (tree : Stmt) → tree ≡ s.Case kind a xs → None ≡ condition_of tree
case_condition kind a xs tree is = sym (ap condition_of is)

pub if_alone : (a : Expr) (x tree : Stmt) → tree ≡ s.If a x → None ≡ condition_alone tree
unfolding shape-the_row-Stmt-1 hidden-the_row-Stmt-1 denote.Hole.Carrier.hidden
if_alone a x tree is = sym (ap condition_alone is)

pub if_condition : (a : Expr) (x tree : Stmt) → tree ≡ s.If a x → None ≡ condition_of tree
unfolding shape-the_row-Stmt-1 hidden-the_row-Stmt-1 denote.Hole.Carrier.hidden
if_condition a x tree is = sym (ap condition_of is)

pub if_else_alone : (a : Expr) (x y tree : Stmt) → tree ≡ s.IfElse a x y → Some a ≡ condition_alone tree
unfolding shape-the_row-Stmt-1 hidden-the_row-Stmt-1 denote.Hole.Carrier.hidden
if_else_alone a x y tree is = sym (ap condition_alone is)

pub if_else_condition : (a : Expr) (x y tree : Stmt) → tree ≡ s.IfElse a x y → Some a ≡ condition_of tree
unfolding shape-the_row-Stmt-1 hidden-the_row-Stmt-1 denote.Hole.Carrier.hidden
if_else_condition a x y tree is = sym (ap condition_of is)
