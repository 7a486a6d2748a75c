-- The parts in each form of a left side, and what each form of an expression reads, as the code reads them.
use Rattle.std.proofs.Common.{◌≡◌, List, ◌∷◌, ◌++◌, refl, sym, ap, ◌∙◌}
use Rattle.std.specs.List.{flat_map}
use Rattle.vlog_tree.specs.declared.expr.Name.{Name as Read}
use Rattle.vlog_tree.specs.declared.expr.Unary.{Unary}
use Rattle.vlog_tree.specs.declared.expr.Binary.{Binary}
use Rattle.vlog_tree.specs.declared.expr.Cast.{Cast}
use Rattle.vlog_tree.specs.declared.expr.Span.{Span}
use Rattle.vlog_tree.specs.declared.expr.Constant.{Constant}
use Rattle.vlog_tree.specs.declared.expr.Expr.{Expr, Row_of-Expr, end_of-Expr, more_of-Expr, items-the_row-Expr, items_hidden-the_row-Expr-1}
use Rattle.vlog_tree.specs.declared.expr.Expr.TheVariants as e
use Rattle.vlog_tree.specs.declared.expr.Expr.TheBlock.{shape-the_row-Expr-0, hidden-the_row-Expr-0, hidden-the_row-Expr-1}
use Rattle.vlog_tree.specs.declared.stmt.Lval.{Lval, Row_of-Lval, end_of-Lval, more_of-Lval, items-the_row-Lval, items_hidden-the_row-Lval-0}
use Rattle.vlog_tree.specs.declared.stmt.Lval.TheVariants as l
use Rattle.vlog_tree.specs.declared.stmt.Lval.TheBlock.{hidden-the_row-Lval-0}
use Rattle.elab_flat_faults.specs.Drivers.{parts_of, row_parts_of}
use Rattle.elab_flat_drivers.specs.Parts.{reads_of, row_reads}
use denote.Hole.Carrier

lefts : (m : _) (row : Row_of-Lval m) → row_parts_of row ≡ flat_map parts_of (items-the_row-Lval m row)
lefts m end_of-Lval = refl
lefts m (more_of-Lval a rest) = ap (λ xs. parts_of a ++ xs) (lefts _ rest)

pub concat_parts : (xs ys : List Lval) (tree : Lval) → tree ≡ l.Concat xs → ys ≡ xs → flat_map parts_of ys ≡ parts_of tree
concat_parts xs ys tree is same =
    sym (ap parts_of is ∙ lefts _ (hidden-the_row-Lval-0 xs) ∙ ap (flat_map parts_of) (items_hidden-the_row-Lval-0 xs ∙ sym same))

rows : (m : _) (row : Row_of-Expr m) → row_reads row ≡ flat_map reads_of (items-the_row-Expr m row)
rows m end_of-Expr = refl
rows m (more_of-Expr a rest) = ap (λ xs. reads_of a ++ xs) (rows _ rest)

listed : (xs ys : List Expr) → ys ≡ xs → row_reads (hidden-the_row-Expr-1 xs) ≡ flat_map reads_of ys
listed xs ys same = rows _ (hidden-the_row-Expr-1 xs) ∙ ap (flat_map reads_of) (items_hidden-the_row-Expr-1 xs ∙ sym same)

pub select_reads : (n : Read) (a x tree : Expr) → tree ≡ e.Select n a → x ≡ a → l.Select n.text x ∷ reads_of x ≡ reads_of tree
unfolding shape-the_row-Expr-0 hidden-the_row-Expr-0 denote.Hole.Carrier.hidden
select_reads n a x tree is same = ap (λ z. l.Select n.text z ∷ reads_of z) same ∙ sym (ap reads_of is)

pub part_reads : (n : Read) (s : Span) (a b x y tree : Expr) → tree ≡ e.Part n s a b → x ≡ a → y ≡ b → l.Part n.text s x y ∷ (reads_of x ++ reads_of y) ≡ reads_of tree
unfolding shape-the_row-Expr-0 hidden-the_row-Expr-0 denote.Hole.Carrier.hidden
part_reads n s a b x y tree is f g = (λ i. l.Part n.text s (f i) (g i) ∷ (reads_of (f i) ++ reads_of (g i))) ∙ sym (ap reads_of is)

pub constant_select_reads : (k : Constant) (a x tree : Expr) → tree ≡ e.ConstantSelect k a → x ≡ a → reads_of x ≡ reads_of tree
unfolding shape-the_row-Expr-0 hidden-the_row-Expr-0 denote.Hole.Carrier.hidden
constant_select_reads k a x tree is same = ap reads_of same ∙ sym (ap reads_of is)

pub constant_part_reads : (k : Constant) (s : Span) (a b x y tree : Expr) → tree ≡ e.ConstantPart k s a b → x ≡ a → y ≡ b → reads_of x ++ reads_of y ≡ reads_of tree
unfolding shape-the_row-Expr-0 hidden-the_row-Expr-0 denote.Hole.Carrier.hidden
constant_part_reads k s a b x y tree is f g = (λ i. reads_of (f i) ++ reads_of (g i)) ∙ sym (ap reads_of is)

pub cast_reads : (c : Cast) (a x tree : Expr) → tree ≡ e.Cast c a → x ≡ a → reads_of x ≡ reads_of tree
unfolding shape-the_row-Expr-0 hidden-the_row-Expr-0 denote.Hole.Carrier.hidden
cast_reads c a x tree is same = ap reads_of same ∙ sym (ap reads_of is)

pub paren_reads : (a x tree : Expr) → tree ≡ e.Paren a → x ≡ a → reads_of x ≡ reads_of tree
unfolding shape-the_row-Expr-0 hidden-the_row-Expr-0 denote.Hole.Carrier.hidden
paren_reads a x tree is same = ap reads_of same ∙ sym (ap reads_of is)

pub unary_reads : (op : Unary) (a x tree : Expr) → tree ≡ e.Unary op a → x ≡ a → reads_of x ≡ reads_of tree
unfolding shape-the_row-Expr-0 hidden-the_row-Expr-0 denote.Hole.Carrier.hidden
unary_reads op a x tree is same = ap reads_of same ∙ sym (ap reads_of is)

pub binary_reads : (op : Binary) (a b x y tree : Expr) → tree ≡ e.Binary op a b → x ≡ a → y ≡ b → reads_of x ++ reads_of y ≡ reads_of tree
unfolding shape-the_row-Expr-0 hidden-the_row-Expr-0 denote.Hole.Carrier.hidden
binary_reads op a b x y tree is f g = (λ i. reads_of (f i) ++ reads_of (g i)) ∙ sym (ap reads_of is)

pub choice_reads : (c a b w x y tree : Expr) → tree ≡ e.Choice c a b → w ≡ c → x ≡ a → y ≡ b → reads_of w ++ (reads_of x ++ reads_of y) ≡ reads_of tree
unfolding shape-the_row-Expr-0 hidden-the_row-Expr-0 denote.Hole.Carrier.hidden
choice_reads c a b w x y tree is u f g = (λ i. reads_of (u i) ++ (reads_of (f i) ++ reads_of (g i))) ∙ sym (ap reads_of is)

pub concat_reads : (xs ys : List Expr) (tree : Expr) → tree ≡ e.Concat xs → ys ≡ xs → flat_map reads_of ys ≡ reads_of tree
concat_reads xs ys tree is same = sym (ap reads_of is ∙ listed xs ys same)

pub repeat_reads : (a x tree : Expr) (xs ys : List Expr) → tree ≡ e.Repeat a xs → x ≡ a → ys ≡ xs → reads_of x ++ flat_map reads_of ys ≡ reads_of tree
unfolding shape-the_row-Expr-0 hidden-the_row-Expr-0 denote.Hole.Carrier.hidden
repeat_reads a x tree xs ys is f same = ap (λ z. reads_of z ++ flat_map reads_of ys) f ∙ (ap (λ z. reads_of a ++ z) (sym (listed xs ys same)) ∙ sym (ap reads_of is))
