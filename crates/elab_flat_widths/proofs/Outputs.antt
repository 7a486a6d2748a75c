-- The parts of each form of an expression as a left side, as the code reads it.
use Rattle.std.proofs.Common.{◌≡◌, List, [], ◌∷◌, ◌++◌, map, refl, sym, ap, ◌∙◌, append-nil}
use Rattle.std.proofs.lemmas.List.{map-append}
use Rattle.std.specs.List.{flat_map}
use Rattle.vlog_tree.specs.declared.expr.Binary.{Binary}
use Rattle.vlog_tree.specs.declared.expr.Cast.{Cast}
use Rattle.vlog_tree.specs.declared.expr.Constant.{Constant}
use Rattle.vlog_tree.specs.declared.expr.Expr.{Expr, Row_of-Expr, end_of-Expr, more_of-Expr, items-the_row-Expr, items_hidden-the_row-Expr-1}
use Rattle.vlog_tree.specs.declared.expr.Expr.TheVariants as e
use Rattle.vlog_tree.specs.declared.expr.Expr.TheBlock.{shape-the_row-Expr-0, hidden-the_row-Expr-0, shape-the_row-Expr-1, hidden-the_row-Expr-1}
use Rattle.vlog_tree.specs.declared.expr.Name.{Name as Read}
use Rattle.vlog_tree.specs.declared.expr.Span.{Span}
use Rattle.vlog_tree.specs.declared.expr.Unary.{Unary}
use Rattle.vlog_tree.specs.declared.stmt.Lval.TheVariants as l
use Rattle.vlog_tree_runs.specs.Scopes.{left_of, row_left}
use Rattle.elab_flat_faults.specs.Drivers.{parts_of}
use Rattle.elab_flat_drivers.proofs.Reading.{concat_parts}
use Rattle.elab_flat_widths.specs.Outputs.{expr_parts}
use denote.Hole.Carrier

-- a list that is as it was
pub same_list : {A : Type 0} (xs ys : List A) → ys ≡ [] → xs ≡ xs ++ ys
same_list xs ys e = sym (append-nil xs) ∙ ap (λ z. xs ++ z) (sym e)

-- one more at the end
pub one_more : {A B : Type 0} (f : A → B) (old new : List A) (x : A) (ys : List B) → new ≡ old ++ x ∷ [] → f x ∷ [] ≡ ys → map f new ≡ map f old ++ ys
one_more f old new x ys e g = ap (map f) e ∙ (map-append f old (x ∷ []) ∙ ap (λ z. map f old ++ z) g)

rows : (m : _) (row : Row_of-Expr m) → row_left row ≡ map left_of (items-the_row-Expr m row)
rows m end_of-Expr = refl
rows m (more_of-Expr a rest) = ap (λ zs. left_of a ∷ zs) (rows _ rest)

fused : (xs : List Expr) → flat_map parts_of (map left_of xs) ≡ flat_map expr_parts xs
fused [] = refl
fused (x ∷ xs) = ap (λ zs. expr_parts x ++ zs) (fused xs)

none_left : parts_of (l.Concat []) ≡ []
none_left = sym (concat_parts [] [] (l.Concat []) refl refl)

pub concat_left : (xs ys : List Expr) (tree : Expr) → tree ≡ e.Concat xs → ys ≡ xs → flat_map expr_parts ys ≡ expr_parts tree
concat_left xs ys tree is same =
    ap (flat_map expr_parts) same ∙ (sym (fused xs) ∙ (ap (flat_map parts_of) (ap (map left_of) (sym (items_hidden-the_row-Expr-1 xs)) ∙ sym (rows _ (hidden-the_row-Expr-1 xs)))
    ∙ (concat_parts (row_left (hidden-the_row-Expr-1 xs)) (row_left (hidden-the_row-Expr-1 xs)) (l.Concat (row_left (hidden-the_row-Expr-1 xs))) refl refl ∙ sym (ap expr_parts is))))

pub select_left : (n : Read) (a x tree : Expr) → tree ≡ e.Select n a → x ≡ a → l.Select n.text x ∷ [] ≡ expr_parts tree
unfolding shape-the_row-Expr-0 hidden-the_row-Expr-0 denote.Hole.Carrier.hidden
select_left n a x tree is same = ap (λ z. l.Select n.text z ∷ []) same ∙ sym (ap expr_parts is)

pub part_left : (n : Read) (s : Span) (a c x y tree : Expr) → tree ≡ e.Part n s a c → x ≡ a → y ≡ c → l.Part n.text s x y ∷ [] ≡ expr_parts tree
unfolding shape-the_row-Expr-0 hidden-the_row-Expr-0 denote.Hole.Carrier.hidden
part_left n s a c x y tree is same other = (λ i. l.Part n.text s (same i) (other i) ∷ []) ∙ sym (ap expr_parts is)

pub constant_select_none : (k : Constant) (a tree : Expr) → tree ≡ e.ConstantSelect k a → expr_parts tree ≡ []
unfolding shape-the_row-Expr-0 hidden-the_row-Expr-0 denote.Hole.Carrier.hidden
constant_select_none k a tree is = ap expr_parts is ∙ none_left

pub constant_part_none : (k : Constant) (s : Span) (a c tree : Expr) → tree ≡ e.ConstantPart k s a c → expr_parts tree ≡ []
unfolding shape-the_row-Expr-0 hidden-the_row-Expr-0 denote.Hole.Carrier.hidden
constant_part_none k s a c tree is = ap expr_parts is ∙ none_left

pub number_none : (n : _) (tree : Expr) → tree ≡ e.Number n → expr_parts tree ≡ []
number_none n tree is = ap expr_parts is ∙ none_left

pub cast_none : (c : Cast) (a tree : Expr) → tree ≡ e.Cast c a → expr_parts tree ≡ []
unfolding shape-the_row-Expr-0 hidden-the_row-Expr-0 denote.Hole.Carrier.hidden
cast_none c a tree is = ap expr_parts is ∙ none_left

pub paren_none : (a tree : Expr) → tree ≡ e.Paren a → expr_parts tree ≡ []
unfolding shape-the_row-Expr-0 hidden-the_row-Expr-0 denote.Hole.Carrier.hidden
paren_none a tree is = ap expr_parts is ∙ none_left

pub repeat_none : (a : Expr) (xs : List Expr) (tree : Expr) → tree ≡ e.Repeat a xs → expr_parts tree ≡ []
unfolding shape-the_row-Expr-0 hidden-the_row-Expr-0 shape-the_row-Expr-1 hidden-the_row-Expr-1 denote.Hole.Carrier.hidden
repeat_none a xs tree is = ap expr_parts is ∙ none_left

pub unary_none : (op : Unary) (a tree : Expr) → tree ≡ e.Unary op a → expr_parts tree ≡ []
unfolding shape-the_row-Expr-0 hidden-the_row-Expr-0 denote.Hole.Carrier.hidden
unary_none op a tree is = ap expr_parts is ∙ none_left

pub binary_none : (op : Binary) (a c tree : Expr) → tree ≡ e.Binary op a c → expr_parts tree ≡ []
unfolding shape-the_row-Expr-0 hidden-the_row-Expr-0 denote.Hole.Carrier.hidden
binary_none op a c tree is = ap expr_parts is ∙ none_left

pub choice_none : (c a d tree : Expr) → tree ≡ e.Choice c a d → expr_parts tree ≡ []
unfolding shape-the_row-Expr-0 hidden-the_row-Expr-0 denote.Hole.Carrier.hidden
choice_none c a d tree is = ap expr_parts is ∙ none_left
