-- Each form of an expression, as the code reads it, and its largest offset.
use Rattle.std.proofs.Common.{◌≡◌, ℕ, max, List, [], ◌∷◌, refl, ◌∙◌, ap}
use Rattle.vlog_tree.specs.declared.expr.Binary.{Binary}
use Rattle.vlog_tree.specs.declared.expr.Cast.{Cast}
use Rattle.vlog_tree.specs.declared.expr.Constant.{Constant}
use Rattle.vlog_tree.specs.declared.expr.Expr.{Expr, Row_of-Expr, end_of-Expr, more_of-Expr}
use Rattle.vlog_tree.specs.declared.expr.Expr.TheBlock.{items-the_row-Expr, shape-the_row-Expr-0, hidden-the_row-Expr-0, hidden-the_row-Expr-1, items_hidden-the_row-Expr-1}
use Rattle.vlog_tree.specs.declared.expr.Expr.TheVariants as e
use Rattle.vlog_tree.specs.declared.expr.Name.{Name}
use Rattle.vlog_tree.specs.declared.expr.Span.{Span}
use Rattle.vlog_tree.specs.declared.expr.Unary.{Unary}
use Rattle.set_tree.specs.Formulas.{largest_offset, largest_of_row}
use denote.Hole.Carrier

pub select_largest : (x : Name) (a : Expr) → largest_offset (e.Select x a) ≡ max x.offset (largest_offset a)
unfolding shape-the_row-Expr-0 hidden-the_row-Expr-0 denote.Hole.Carrier.hidden
select_largest x a = refl

pub part_largest : (x : Name) (span : Span) (a b : Expr) → largest_offset (e.Part x span a b) ≡ max x.offset (max (largest_offset a) (largest_offset b))
unfolding shape-the_row-Expr-0 hidden-the_row-Expr-0 denote.Hole.Carrier.hidden
part_largest x span a b = refl

pub constant_select_largest : (k : Constant) (a : Expr) → largest_offset (e.ConstantSelect k a) ≡ largest_offset a
unfolding shape-the_row-Expr-0 hidden-the_row-Expr-0 denote.Hole.Carrier.hidden
constant_select_largest k a = refl

pub constant_part_largest : (k : Constant) (span : Span) (a b : Expr) → largest_offset (e.ConstantPart k span a b) ≡ max (largest_offset a) (largest_offset b)
unfolding shape-the_row-Expr-0 hidden-the_row-Expr-0 denote.Hole.Carrier.hidden
constant_part_largest k span a b = refl

pub cast_largest : (k : Cast) (a : Expr) → largest_offset (e.Cast k a) ≡ largest_offset a
unfolding shape-the_row-Expr-0 hidden-the_row-Expr-0 denote.Hole.Carrier.hidden
cast_largest k a = refl

pub paren_largest : (a : Expr) → largest_offset (e.Paren a) ≡ largest_offset a
unfolding shape-the_row-Expr-0 hidden-the_row-Expr-0 denote.Hole.Carrier.hidden
paren_largest a = refl

pub unary_largest : (op : Unary) (a : Expr) → largest_offset (e.Unary op a) ≡ largest_offset a
unfolding shape-the_row-Expr-0 hidden-the_row-Expr-0 denote.Hole.Carrier.hidden
unary_largest op a = refl

pub binary_largest : (op : Binary) (a b : Expr) → largest_offset (e.Binary op a b) ≡ max (largest_offset a) (largest_offset b)
unfolding shape-the_row-Expr-0 hidden-the_row-Expr-0 denote.Hole.Carrier.hidden
binary_largest op a b = refl

pub choice_largest : (c a b : Expr) → largest_offset (e.Choice c a b) ≡ max (largest_offset c) (max (largest_offset a) (largest_offset b))
unfolding shape-the_row-Expr-0 hidden-the_row-Expr-0 denote.Hole.Carrier.hidden
choice_largest c a b = refl

-- the largest of several
abbrev pub largest_of : List Expr → ℕ
largest_of [] = 0
largest_of (a ∷ rest) = max (largest_offset a) (largest_of rest)

row_largest : {n : _} (k : Row_of-Expr n) → largest_of_row k ≡ largest_of (items-the_row-Expr n k)
row_largest end_of-Expr = refl
row_largest (more_of-Expr a rest) = ap (max (largest_offset a)) (row_largest rest)

pub concat_largest : (parts : List Expr) → largest_offset (e.Concat parts) ≡ largest_of parts
concat_largest parts = row_largest (hidden-the_row-Expr-1 parts) ∙ ap largest_of (items_hidden-the_row-Expr-1 parts)

pub repeat_largest : (a : Expr) (parts : List Expr) → largest_offset (e.Repeat a parts) ≡ max (largest_offset a) (largest_of parts)
unfolding shape-the_row-Expr-0 hidden-the_row-Expr-0 denote.Hole.Carrier.hidden
repeat_largest a parts = ap (max (largest_offset a)) (row_largest (hidden-the_row-Expr-1 parts) ∙ ap largest_of (items_hidden-the_row-Expr-1 parts))
