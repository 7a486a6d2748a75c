-- The test for constant parts in each form of a formula, as the code reads it.
use Rattle.std.proofs.Common.{◌≡◌, List, [], ◌∷◌, Some, None, Bool, true, false, refl, sym, ap, ◌∙◌}
use Rattle.std.specs.Prelude.{◌&&◌}
use Rattle.std.specs.List.{find, list_all}
use Rattle.vlog_tree.specs.declared.expr.Name.{Name}
use Rattle.vlog_tree.specs.declared.expr.Unary.{Unary}
use Rattle.vlog_tree.specs.declared.expr.Binary.{Binary}
use Rattle.vlog_tree.specs.declared.expr.Cast.{Cast}
use Rattle.vlog_tree.specs.declared.expr.Span.{Span}
use Rattle.vlog_tree.specs.declared.expr.Constant.{Constant}
use Rattle.vlog_tree.specs.declared.expr.Expr.{Expr, Row_of-Expr, end_of-Expr, more_of-Expr, items-the_row-Expr, items_hidden-the_row-Expr-1}
use Rattle.vlog_tree.specs.declared.expr.Expr.TheVariants as e
use Rattle.vlog_tree.specs.declared.expr.Expr.TheBlock.{shape-the_row-Expr-0, hidden-the_row-Expr-0, shape-the_row-Expr-1, hidden-the_row-Expr-1}
use Rattle.set_read_lookup.specs.declared.names.Wanted.TheVariants as w
use Rattle.set_read_lookup.specs.Faults.{is_wanted}
use Rattle.set_read_lookup.specs.Tests.{is_empty, names_nothing, is_part_constant, is_division_constant, has_constant_parts, all_have_constant_parts}
use denote.Hole.Carrier

-- what a search for any name says
pub some_name : (xs : List Name) (x : Name) → Some x ≡ find (is_wanted w.Any) xs → false ≡ is_empty xs
some_name [] x h = absurd (cc)
some_name (y ∷ ys) x h = refl

pub no_name : (xs : List Name) → None ≡ find (is_wanted w.Any) xs → true ≡ is_empty xs
no_name [] h = refl
no_name (y ∷ ys) h = absurd (cc)

row_parts : (m : _) (row : Row_of-Expr m) → all_have_constant_parts row ≡ list_all has_constant_parts (items-the_row-Expr m row)
row_parts m end_of-Expr = refl
row_parts m (more_of-Expr a rest) = ap (λ t. has_constant_parts a && t) (row_parts _ rest)

list_parts : (xs : List Expr) → all_have_constant_parts (hidden-the_row-Expr-1 xs) ≡ list_all has_constant_parts xs
list_parts xs = row_parts _ (hidden-the_row-Expr-1 xs) ∙ ap (list_all has_constant_parts) (items_hidden-the_row-Expr-1 xs)

pub select_test : (tree : Expr) (n : Name) (a x : Expr) (r : Bool) → tree ≡ e.Select n a → x ≡ a → r ≡ has_constant_parts x → r ≡ has_constant_parts tree
unfolding shape-the_row-Expr-0 hidden-the_row-Expr-0 denote.Hole.Carrier.hidden
select_test tree n a x r is i h = h ∙ (ap has_constant_parts i ∙ sym (ap has_constant_parts is))

pub constant_select_test : (tree : Expr) (k : Constant) (a x : Expr) (r : Bool) → tree ≡ e.ConstantSelect k a → x ≡ a → r ≡ has_constant_parts x → r ≡ has_constant_parts tree
unfolding shape-the_row-Expr-0 hidden-the_row-Expr-0 denote.Hole.Carrier.hidden
constant_select_test tree k a x r is i h = h ∙ (ap has_constant_parts i ∙ sym (ap has_constant_parts is))

pub cast_test : (tree : Expr) (c : Cast) (a x : Expr) (r : Bool) → tree ≡ e.Cast c a → x ≡ a → r ≡ has_constant_parts x → r ≡ has_constant_parts tree
unfolding shape-the_row-Expr-0 hidden-the_row-Expr-0 denote.Hole.Carrier.hidden
cast_test tree c a x r is i h = h ∙ (ap has_constant_parts i ∙ sym (ap has_constant_parts is))

pub paren_test : (tree a x : Expr) (r : Bool) → tree ≡ e.Paren a → x ≡ a → r ≡ has_constant_parts x → r ≡ has_constant_parts tree
unfolding shape-the_row-Expr-0 hidden-the_row-Expr-0 denote.Hole.Carrier.hidden
paren_test tree a x r is i h = h ∙ (ap has_constant_parts i ∙ sym (ap has_constant_parts is))

pub unary_test : (tree : Expr) (op : Unary) (a x : Expr) (r : Bool) → tree ≡ e.Unary op a → x ≡ a → r ≡ has_constant_parts x → r ≡ has_constant_parts tree
unfolding shape-the_row-Expr-0 hidden-the_row-Expr-0 denote.Hole.Carrier.hidden
unary_test tree op a x r is i h = h ∙ (ap has_constant_parts i ∙ sym (ap has_constant_parts is))

-- two operands and a test of both
module _ (a b x y x' y' : Expr) (f : Expr → Expr → Bool) (p q s t r : Bool) (i : x ≡ a) (j : y ≡ b) (i' : x' ≡ a) (j' : y' ≡ b)
    (left : p ≡ has_constant_parts x) (right : q ≡ has_constant_parts y) (test : s ≡ f x' y') (inner : t ≡ (q && s)) (outer : r ≡ (p && t)) where
  two : r ≡ (has_constant_parts a && (has_constant_parts b && f a b))
  two = outer ∙ ((λ z. (left ∙ ap has_constant_parts i) z && inner z) ∙ (λ z. has_constant_parts a && ((right ∙ ap has_constant_parts j) z && (test ∙ (λ k. f (i' k) (j' k))) z)))

  pub part_test : (tree : Expr) (n : Name) (span : Span) → tree ≡ e.Part n span a b → f ≡ is_part_constant span → r ≡ has_constant_parts tree
  unfolding shape-the_row-Expr-0 hidden-the_row-Expr-0 denote.Hole.Carrier.hidden
  part_test tree n span is g = two ∙ ((λ z. has_constant_parts a && (has_constant_parts b && g z a b)) ∙ sym (ap has_constant_parts is))

  pub constant_part_test : (tree : Expr) (k : Constant) (span : Span) → tree ≡ e.ConstantPart k span a b → f ≡ is_part_constant span → r ≡ has_constant_parts tree
  unfolding shape-the_row-Expr-0 hidden-the_row-Expr-0 denote.Hole.Carrier.hidden
  constant_part_test tree k span is g = two ∙ ((λ z. has_constant_parts a && (has_constant_parts b && g z a b)) ∙ sym (ap has_constant_parts is))

  pub binary_test : (tree : Expr) (op : Binary) → tree ≡ e.Binary op a b → f ≡ is_division_constant op → r ≡ has_constant_parts tree
  unfolding shape-the_row-Expr-0 hidden-the_row-Expr-0 denote.Hole.Carrier.hidden
  binary_test tree op is g = two ∙ ((λ z. has_constant_parts a && (has_constant_parts b && g z a b)) ∙ sym (ap has_constant_parts is))

pub choice_test : (tree c a b w x y : Expr) (o p q t r : Bool) → tree ≡ e.Choice c a b → w ≡ c → x ≡ a → y ≡ b → o ≡ has_constant_parts w → p ≡ has_constant_parts x → q ≡ has_constant_parts y
    → t ≡ (p && q) → r ≡ (o && t) → r ≡ has_constant_parts tree
unfolding shape-the_row-Expr-0 hidden-the_row-Expr-0 denote.Hole.Carrier.hidden
choice_test tree c a b w x y o p q t r is u i j f g h inner outer =
    outer ∙ ((λ z. (f ∙ ap has_constant_parts u) z && inner z)
    ∙ ((λ z. has_constant_parts c && ((g ∙ ap has_constant_parts i) z && (h ∙ ap has_constant_parts j) z)) ∙ sym (ap has_constant_parts is)))

pub concat_test : (tree : Expr) (xs ys : List Expr) (r : Bool) → tree ≡ e.Concat xs → ys ≡ xs → r ≡ list_all has_constant_parts ys → r ≡ has_constant_parts tree
unfolding shape-the_row-Expr-1 hidden-the_row-Expr-1 denote.Hole.Carrier.hidden
concat_test tree xs ys r is i h = h ∙ (ap (list_all has_constant_parts) i ∙ (sym (list_parts xs) ∙ sym (ap has_constant_parts is)))

pub repeat_test : (tree a x x' : Expr) (xs ys : List Expr) (p q s t r : Bool) → tree ≡ e.Repeat a xs → x ≡ a → x' ≡ a → ys ≡ xs → p ≡ has_constant_parts x → q ≡ names_nothing x' → s ≡ list_all has_constant_parts ys
    → t ≡ (q && s) → r ≡ (p && t) → r ≡ has_constant_parts tree
unfolding shape-the_row-Expr-0 hidden-the_row-Expr-0 shape-the_row-Expr-1 hidden-the_row-Expr-1 denote.Hole.Carrier.hidden
repeat_test tree a x x' xs ys p q s t r is i i' j f g h inner outer =
    outer ∙ ((λ z. (f ∙ ap has_constant_parts i) z && inner z)
    ∙ ((λ z. has_constant_parts a && ((g ∙ ap names_nothing i') z && (h ∙ (ap (list_all has_constant_parts) j ∙ sym (list_parts xs))) z)) ∙ sym (ap has_constant_parts is)))
