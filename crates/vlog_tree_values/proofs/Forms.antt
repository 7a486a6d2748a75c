-- Each form of an expression, as the code reads it; and what the definitions say of it.
use Rattle.std.proofs.Common.{◌≡◌, refl, ap, ◌∙◌, List, IsTrue}
use Rattle.std.specs.Prelude.{nat_eq, if◌then◌else◌}
use Rattle.vlog_tree.specs.declared.expr.Binary.{Binary}
use Rattle.vlog_tree.specs.declared.expr.Cast.{Cast}
use Rattle.vlog_tree.specs.declared.expr.Constant.{Constant}
use Rattle.vlog_tree.specs.declared.expr.Expr.{Expr, Row_of-Expr, end_of-Expr, more_of-Expr}
use Rattle.vlog_tree.specs.declared.expr.Expr.TheVariants as e
use Rattle.vlog_tree.specs.declared.expr.Expr.TheBlock.{items-the_row-Expr, shape-the_row-Expr-0, hidden-the_row-Expr-0, hidden-the_row-Expr-1, items_hidden-the_row-Expr-1}
use Rattle.vlog_tree.specs.declared.expr.Name.{Name}
use Rattle.vlog_tree.specs.declared.expr.Span.{Span}
use Rattle.vlog_tree.specs.declared.expr.Unary.{Unary}
use Rattle.vlog_tree.specs.declared.valuation.Entry.{Entry}
use Rattle.vlog_tree.specs.Valuation.{IsLength, named, depth_of}
use Rattle.vlog_tree.specs.Value.{operand_of, row_of, bit_of, word_of, part_of, cast_of, unary_of, binary_of, choice_of, repeated, joined, own_defined, IsFormed, AllFormed, Stands, IsPart}
use Rattle.vlog_tree_values.specs.Shapes.{each_row, each_formed}
use denote.Hole.Carrier

-- ---- operands

pub select_operand : (v : List Entry) (x : Name) (a : Expr) → operand_of v (e.Select x a) ≡ (if nat_eq (depth_of v x) 0 then bit_of (named v x) (operand_of v a) else word_of v x (operand_of v a))
unfolding shape-the_row-Expr-0 hidden-the_row-Expr-0 denote.Hole.Carrier.hidden
select_operand v x a = refl

pub part_operand : (v : List Entry) (x : Name) (span : Span) (a b : Expr) → operand_of v (e.Part x span a b) ≡ (part_of (named v x) span (operand_of v a) (operand_of v b))
unfolding shape-the_row-Expr-0 hidden-the_row-Expr-0 denote.Hole.Carrier.hidden
part_operand v x span a b = refl

pub constant_select_operand : (v : List Entry) (k : Constant) (a : Expr) → operand_of v (e.ConstantSelect k a) ≡ (bit_of k (operand_of v a))
unfolding shape-the_row-Expr-0 hidden-the_row-Expr-0 denote.Hole.Carrier.hidden
constant_select_operand v k a = refl

pub constant_part_operand : (v : List Entry) (k : Constant) (span : Span) (a b : Expr) → operand_of v (e.ConstantPart k span a b) ≡ (part_of k span (operand_of v a) (operand_of v b))
unfolding shape-the_row-Expr-0 hidden-the_row-Expr-0 denote.Hole.Carrier.hidden
constant_part_operand v k span a b = refl

pub cast_operand : (v : List Entry) (cast : Cast) (a : Expr) → operand_of v (e.Cast cast a) ≡ (cast_of cast (operand_of v a))
unfolding shape-the_row-Expr-0 hidden-the_row-Expr-0 denote.Hole.Carrier.hidden
cast_operand v cast a = refl

pub paren_operand : (v : List Entry) (a : Expr) → operand_of v (e.Paren a) ≡ (operand_of v a)
unfolding shape-the_row-Expr-0 hidden-the_row-Expr-0 denote.Hole.Carrier.hidden
paren_operand v a = refl

pub unary_operand : (v : List Entry) (op : Unary) (a : Expr) → operand_of v (e.Unary op a) ≡ (unary_of op (operand_of v a))
unfolding shape-the_row-Expr-0 hidden-the_row-Expr-0 denote.Hole.Carrier.hidden
unary_operand v op a = refl

pub binary_operand : (v : List Entry) (op : Binary) (a b : Expr) → operand_of v (e.Binary op a b) ≡ (binary_of op (operand_of v a) (operand_of v b))
unfolding shape-the_row-Expr-0 hidden-the_row-Expr-0 denote.Hole.Carrier.hidden
binary_operand v op a b = refl

pub choice_operand : (v : List Entry) (c a b : Expr) → operand_of v (e.Choice c a b) ≡ (choice_of (operand_of v c) (operand_of v a) (operand_of v b))
unfolding shape-the_row-Expr-0 hidden-the_row-Expr-0 denote.Hole.Carrier.hidden
choice_operand v c a b = refl

-- the parts of a concatenation
row_operand : {m : _} (v : List Entry) (k : Row_of-Expr m) → row_of v k ≡ each_row v (items-the_row-Expr m k)
row_operand v end_of-Expr = refl
row_operand v (more_of-Expr a rest) = ap (λ o. joined (operand_of v a) o) (row_operand v rest)

row_formed : {m : _} (v : List Entry) (k : Row_of-Expr m) → AllFormed v k → each_formed v (items-the_row-Expr m k)
row_formed v end_of-Expr h = tt
row_formed v (more_of-Expr a rest) h = (h.0, row_formed v rest h.1)

formed_row : {m : _} (v : List Entry) (k : Row_of-Expr m) → each_formed v (items-the_row-Expr m k) → AllFormed v k
formed_row v end_of-Expr h = tt
formed_row v (more_of-Expr a rest) h = (h.0, formed_row v rest h.1)

the_row : (v : List Entry) (items : List Expr) → row_of v (hidden-the_row-Expr-1 items) ≡ each_row v items
the_row v items = row_operand v (hidden-the_row-Expr-1 items) ∙ ap (λ (l : List Expr). each_row v l) (items_hidden-the_row-Expr-1 items)

pub concat_operand : (v : List Entry) (items : List Expr) → operand_of v (e.Concat items) ≡ each_row v items
concat_operand v items = the_row v items

pub repeat_operand : (v : List Entry) (a : Expr) (items : List Expr) → operand_of v (e.Repeat a items) ≡ repeated (operand_of v a) (each_row v items)
unfolding shape-the_row-Expr-0 hidden-the_row-Expr-0 denote.Hole.Carrier.hidden
repeat_operand v a items = ap (λ r. repeated (operand_of v a) r) (the_row v items)

-- ---- well-formed expressions

pub select_formed : (v : List Entry) (x : Name) (a : Expr) (tree : Expr) → tree ≡ e.Select x a → IsFormed v tree → Stands v x × IsFormed v a
unfolding shape-the_row-Expr-0 hidden-the_row-Expr-0 denote.Hole.Carrier.hidden
select_formed v x a tree is h = rw is at h

pub formed_select : (v : List Entry) (x : Name) (a : Expr) (tree : Expr) → tree ≡ e.Select x a → Stands v x × IsFormed v a → IsFormed v tree
unfolding shape-the_row-Expr-0 hidden-the_row-Expr-0 denote.Hole.Carrier.hidden
formed_select v x a tree is h = rw is h

pub part_formed : (v : List Entry) (x : Name) (span : Span) (a b : Expr) (tree : Expr) → tree ≡ e.Part x span a b → IsFormed v tree → Stands v x × IsFormed v a × IsFormed v b × IsPart (named v x) span (operand_of v a) (operand_of v b) × IsLength (part_of (named v x) span (operand_of v a) (operand_of v b)).width
unfolding shape-the_row-Expr-0 hidden-the_row-Expr-0 denote.Hole.Carrier.hidden
part_formed v x span a b tree is h = rw is at h

pub formed_part : (v : List Entry) (x : Name) (span : Span) (a b : Expr) (tree : Expr) → tree ≡ e.Part x span a b → Stands v x × IsFormed v a × IsFormed v b × IsPart (named v x) span (operand_of v a) (operand_of v b) × IsLength (part_of (named v x) span (operand_of v a) (operand_of v b)).width → IsFormed v tree
unfolding shape-the_row-Expr-0 hidden-the_row-Expr-0 denote.Hole.Carrier.hidden
formed_part v x span a b tree is h = rw is h

pub constant_select_formed : (v : List Entry) (k : Constant) (a : Expr) (tree : Expr) → tree ≡ e.ConstantSelect k a → IsFormed v tree → IsLength k.width × IsFormed v a
unfolding shape-the_row-Expr-0 hidden-the_row-Expr-0 denote.Hole.Carrier.hidden
constant_select_formed v k a tree is h = rw is at h

pub formed_constant_select : (v : List Entry) (k : Constant) (a : Expr) (tree : Expr) → tree ≡ e.ConstantSelect k a → IsLength k.width × IsFormed v a → IsFormed v tree
unfolding shape-the_row-Expr-0 hidden-the_row-Expr-0 denote.Hole.Carrier.hidden
formed_constant_select v k a tree is h = rw is h

pub constant_part_formed : (v : List Entry) (k : Constant) (span : Span) (a b : Expr) (tree : Expr) → tree ≡ e.ConstantPart k span a b → IsFormed v tree → IsLength k.width × IsFormed v a × IsFormed v b × IsPart k span (operand_of v a) (operand_of v b) × IsLength (part_of k span (operand_of v a) (operand_of v b)).width
unfolding shape-the_row-Expr-0 hidden-the_row-Expr-0 denote.Hole.Carrier.hidden
constant_part_formed v k span a b tree is h = rw is at h

pub formed_constant_part : (v : List Entry) (k : Constant) (span : Span) (a b : Expr) (tree : Expr) → tree ≡ e.ConstantPart k span a b → IsLength k.width × IsFormed v a × IsFormed v b × IsPart k span (operand_of v a) (operand_of v b) × IsLength (part_of k span (operand_of v a) (operand_of v b)).width → IsFormed v tree
unfolding shape-the_row-Expr-0 hidden-the_row-Expr-0 denote.Hole.Carrier.hidden
formed_constant_part v k span a b tree is h = rw is h

pub cast_formed : (v : List Entry) (cast : Cast) (a : Expr) (tree : Expr) → tree ≡ e.Cast cast a → IsFormed v tree → IsFormed v a
unfolding shape-the_row-Expr-0 hidden-the_row-Expr-0 denote.Hole.Carrier.hidden
cast_formed v cast a tree is h = rw is at h

pub formed_cast : (v : List Entry) (cast : Cast) (a : Expr) (tree : Expr) → tree ≡ e.Cast cast a → IsFormed v a → IsFormed v tree
unfolding shape-the_row-Expr-0 hidden-the_row-Expr-0 denote.Hole.Carrier.hidden
formed_cast v cast a tree is h = rw is h

pub paren_formed : (v : List Entry) (a : Expr) (tree : Expr) → tree ≡ e.Paren a → IsFormed v tree → IsFormed v a
unfolding shape-the_row-Expr-0 hidden-the_row-Expr-0 denote.Hole.Carrier.hidden
paren_formed v a tree is h = rw is at h

pub formed_paren : (v : List Entry) (a : Expr) (tree : Expr) → tree ≡ e.Paren a → IsFormed v a → IsFormed v tree
unfolding shape-the_row-Expr-0 hidden-the_row-Expr-0 denote.Hole.Carrier.hidden
formed_paren v a tree is h = rw is h

pub unary_formed : (v : List Entry) (op : Unary) (a : Expr) (tree : Expr) → tree ≡ e.Unary op a → IsFormed v tree → IsFormed v a
unfolding shape-the_row-Expr-0 hidden-the_row-Expr-0 denote.Hole.Carrier.hidden
unary_formed v op a tree is h = rw is at h

pub formed_unary : (v : List Entry) (op : Unary) (a : Expr) (tree : Expr) → tree ≡ e.Unary op a → IsFormed v a → IsFormed v tree
unfolding shape-the_row-Expr-0 hidden-the_row-Expr-0 denote.Hole.Carrier.hidden
formed_unary v op a tree is h = rw is h

pub binary_formed : (v : List Entry) (op : Binary) (a b : Expr) (tree : Expr) → tree ≡ e.Binary op a b → IsFormed v tree → IsFormed v a × IsFormed v b
unfolding shape-the_row-Expr-0 hidden-the_row-Expr-0 denote.Hole.Carrier.hidden
binary_formed v op a b tree is h = rw is at h

pub formed_binary : (v : List Entry) (op : Binary) (a b : Expr) (tree : Expr) → tree ≡ e.Binary op a b → IsFormed v a × IsFormed v b → IsFormed v tree
unfolding shape-the_row-Expr-0 hidden-the_row-Expr-0 denote.Hole.Carrier.hidden
formed_binary v op a b tree is h = rw is h

pub choice_formed : (v : List Entry) (c a b : Expr) (tree : Expr) → tree ≡ e.Choice c a b → IsFormed v tree → IsFormed v c × IsFormed v a × IsFormed v b
unfolding shape-the_row-Expr-0 hidden-the_row-Expr-0 denote.Hole.Carrier.hidden
choice_formed v c a b tree is h = rw is at h

pub formed_choice : (v : List Entry) (c a b : Expr) (tree : Expr) → tree ≡ e.Choice c a b → IsFormed v c × IsFormed v a × IsFormed v b → IsFormed v tree
unfolding shape-the_row-Expr-0 hidden-the_row-Expr-0 denote.Hole.Carrier.hidden
formed_choice v c a b tree is h = rw is h

pub concat_formed : (v : List Entry) (items : List Expr) (tree : Expr) → tree ≡ e.Concat items → IsFormed v tree → each_formed v items × IsLength (each_row v items).width
concat_formed v items tree is h =
    let h' = rw is at h in
    (rw items_hidden-the_row-Expr-1 at (row_formed v (hidden-the_row-Expr-1 items) h'.0), rw (the_row v items) at h'.1)

pub formed_concat : (v : List Entry) (items : List Expr) (tree : Expr) → tree ≡ e.Concat items → each_formed v items × IsLength (each_row v items).width → IsFormed v tree
formed_concat v items tree is h =
    rw is (formed_row v (hidden-the_row-Expr-1 items) (rw items_hidden-the_row-Expr-1 h.0), rw (the_row v items) h.1)

pub repeat_formed : (v : List Entry) (a : Expr) (items : List Expr) (tree : Expr) → tree ≡ e.Repeat a items → IsFormed v tree →
    IsFormed v a × IsTrue (own_defined (operand_of v a)) × each_formed v items × IsLength (repeated (operand_of v a) (each_row v items)).width
unfolding shape-the_row-Expr-0 hidden-the_row-Expr-0 denote.Hole.Carrier.hidden
repeat_formed v a items tree is h =
    let h' = rw is at h in
    (h'.0, h'.1, rw items_hidden-the_row-Expr-1 at (row_formed v (hidden-the_row-Expr-1 items) h'.2), rw (the_row v items) at h'.3)

pub formed_repeat : (v : List Entry) (a : Expr) (items : List Expr) (tree : Expr) → tree ≡ e.Repeat a items →
    IsFormed v a × IsTrue (own_defined (operand_of v a)) × each_formed v items × IsLength (repeated (operand_of v a) (each_row v items)).width → IsFormed v tree
unfolding shape-the_row-Expr-0 hidden-the_row-Expr-0 denote.Hole.Carrier.hidden
formed_repeat v a items tree is h =
    rw is (h.0, h.1, formed_row v (hidden-the_row-Expr-1 items) (rw items_hidden-the_row-Expr-1 h.2), rw (the_row v items) h.3)
