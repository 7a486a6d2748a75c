-- Each form of a formula, as the code reads it and as it makes it for the present row.
use Rattle.std.proofs.Common.{ℕ, ◌≡◌, ◌≤◌, List, ◌∷◌, ◌++◌, refl, sym, ap, ◌∙◌, map, drop, length, drop_of_length-le}
use Rattle.std.proofs.lemmas.List.{append-nil}
use Rattle.vlog_tree.specs.declared.expr.Binary.{Binary}
use Rattle.vlog_tree.specs.declared.expr.Cast.{Cast}
use Rattle.vlog_tree.specs.declared.expr.Constant.{Constant}
use Rattle.vlog_tree.specs.declared.expr.Expr.{Expr, Row_of-Expr, end_of-Expr, more_of-Expr, roll-Expr, roll-out-Expr, items-the_row-Expr, items_shown-the_row-Expr-1, items_hidden-the_row-Expr-1}
use Rattle.vlog_tree.specs.declared.expr.Expr.TheVariants as e
use Rattle.vlog_tree.specs.declared.expr.Expr.TheBlock.{shape-the_row-Expr-0, hidden-the_row-Expr-0, shown-the_row-Expr-0, shape-the_row-Expr-1, hidden-the_row-Expr-1, shown-the_row-Expr-1}
use Rattle.vlog_tree.specs.declared.expr.Name.{Name as Read}
use Rattle.vlog_tree.specs.declared.expr.Span.{Span}
use Rattle.vlog_tree.specs.declared.expr.Unary.{Unary}
use Rattle.set_read_lookup.specs.Tests.{present, present_row, present_name}
use denote.Hole.Carrier

-- ---- rows

-- a concatenation by its row is the one by its list
concat_is : (q : _) (row : _) → e.Concat' q row ≡ e.Concat (items-the_row-Expr _ row)
concat_is q row =
    (sym (roll-out-Expr (e.Concat' q row)) ∙ (ap roll-Expr (e.outs-Concat' q row) ∙ e.rolls-Concat (shown-the_row-Expr-1 q row)))
    ∙ ap e.Concat (items_shown-the_row-Expr-1 q row)

-- the same of a replication
repeat_is : (a : Expr) (q : _) (row : _) → e.Repeat' tt (more_of-Expr a end_of-Expr) q row ≡ e.Repeat a (items-the_row-Expr _ row)
unfolding shape-the_row-Expr-0 hidden-the_row-Expr-0 denote.Hole.Carrier.hidden shown-the_row-Expr-0 shown-the_row-Expr-1 Carrier.shown
repeat_is a q row =
    (sym (roll-out-Expr (e.Repeat' tt (more_of-Expr a end_of-Expr) q row)) ∙ (ap roll-Expr (e.outs-Repeat' tt (more_of-Expr a end_of-Expr) q row) ∙ e.rolls-Repeat _ (shown-the_row-Expr-1 q row)))
    ∙ ap (e.Repeat a) (items_shown-the_row-Expr-1 q row)

-- a loop that has moved all
pub loop_done : {A : Type 0} (f : A → A) (xs : List A) (i : ℕ) (all : List A) → length xs ≤ i → all ++ map f (drop i xs) ≡ map f xs → all ≡ map f xs
loop_done f xs i all le h = sym (append-nil all) ∙ (ap (λ ys. all ++ map f ys) (sym (drop_of_length-le xs {i = i} le)) ∙ h)

row_items : {m : _} (row : Row_of-Expr m) → items-the_row-Expr m (present_row row) ≡ map present (items-the_row-Expr m row)
row_items end_of-Expr = refl
row_items (more_of-Expr a rest) = ap (λ xs. present a ∷ xs) (row_items rest)

list_items : (xs : List Expr) → items-the_row-Expr _ (present_row (hidden-the_row-Expr-1 xs)) ≡ map present xs
list_items xs = row_items (hidden-the_row-Expr-1 xs) ∙ ap (map present) (items_hidden-the_row-Expr-1 xs)

pub concat_present : (tree : Expr) (xs ys zs : List Expr) (r : Expr) → tree ≡ e.Concat xs → ys ≡ xs → zs ≡ map present ys → r ≡ e.Concat zs → r ≡ present tree
concat_present tree xs ys zs r is i h m =
    m ∙ (ap e.Concat (h ∙ (ap (map present) i ∙ sym (list_items xs)))
    ∙ (sym (concat_is (shape-the_row-Expr-1 xs) (present_row (hidden-the_row-Expr-1 xs))) ∙ sym (ap present is)))

pub repeat_present : (tree a b x : Expr) (xs ys zs : List Expr) (r : Expr) → tree ≡ e.Repeat a xs → b ≡ a → ys ≡ xs → x ≡ present b → zs ≡ map present ys
    → r ≡ e.Repeat x zs → r ≡ present tree
unfolding shape-the_row-Expr-0 hidden-the_row-Expr-0 denote.Hole.Carrier.hidden
repeat_present tree a b x xs ys zs r is j i k h m =
    m ∙ ((λ z. e.Repeat ((k ∙ ap present j) z) ((h ∙ (ap (map present) i ∙ sym (list_items xs))) z))
    ∙ (sym (repeat_is (present a) (shape-the_row-Expr-1 xs) (present_row (hidden-the_row-Expr-1 xs))) ∙ sym (ap present is)))

-- ---- operands

pub select_present : (tree : Expr) (n p : Read) (a b x r : Expr) → tree ≡ e.Select n a → b ≡ a → x ≡ present b → p ≡ present_name n → r ≡ e.Select p x → r ≡ present tree
unfolding shape-the_row-Expr-0 hidden-the_row-Expr-0 denote.Hole.Carrier.hidden
select_present tree n p a b x r is i h g m = m ∙ ((λ z. e.Select (g z) ((h ∙ ap present i) z)) ∙ sym (ap present is))

pub part_present : (tree : Expr) (n p : Read) (span : Span) (a b c d x y r : Expr) → tree ≡ e.Part n span a b → c ≡ a → d ≡ b → x ≡ present c → y ≡ present d
    → p ≡ present_name n → r ≡ e.Part p span x y → r ≡ present tree
unfolding shape-the_row-Expr-0 hidden-the_row-Expr-0 denote.Hole.Carrier.hidden
part_present tree n p span a b c d x y r is i j h k g m =
    m ∙ ((λ z. e.Part (g z) span ((h ∙ ap present i) z) ((k ∙ ap present j) z)) ∙ sym (ap present is))

pub constant_select_present : (tree : Expr) (v : Constant) (a b x r : Expr) → tree ≡ e.ConstantSelect v a → b ≡ a → x ≡ present b → r ≡ e.ConstantSelect v x → r ≡ present tree
unfolding shape-the_row-Expr-0 hidden-the_row-Expr-0 denote.Hole.Carrier.hidden
constant_select_present tree v a b x r is i h m = m ∙ (ap (e.ConstantSelect v) (h ∙ ap present i) ∙ sym (ap present is))

pub constant_part_present : (tree : Expr) (v : Constant) (span : Span) (a b c d x y r : Expr) → tree ≡ e.ConstantPart v span a b → c ≡ a → d ≡ b → x ≡ present c → y ≡ present d
    → r ≡ e.ConstantPart v span x y → r ≡ present tree
unfolding shape-the_row-Expr-0 hidden-the_row-Expr-0 denote.Hole.Carrier.hidden
constant_part_present tree v span a b c d x y r is i j h k m =
    m ∙ ((λ z. e.ConstantPart v span ((h ∙ ap present i) z) ((k ∙ ap present j) z)) ∙ sym (ap present is))

pub cast_present : (tree : Expr) (kind : Cast) (a b x r : Expr) → tree ≡ e.Cast kind a → b ≡ a → x ≡ present b → r ≡ e.Cast kind x → r ≡ present tree
unfolding shape-the_row-Expr-0 hidden-the_row-Expr-0 denote.Hole.Carrier.hidden
cast_present tree kind a b x r is i h m = m ∙ (ap (e.Cast kind) (h ∙ ap present i) ∙ sym (ap present is))

pub paren_present : (tree a b x r : Expr) → tree ≡ e.Paren a → b ≡ a → x ≡ present b → r ≡ e.Paren x → r ≡ present tree
unfolding shape-the_row-Expr-0 hidden-the_row-Expr-0 denote.Hole.Carrier.hidden
paren_present tree a b x r is i h m = m ∙ (ap e.Paren (h ∙ ap present i) ∙ sym (ap present is))

pub unary_present : (tree : Expr) (op : Unary) (a b x r : Expr) → tree ≡ e.Unary op a → b ≡ a → x ≡ present b → r ≡ e.Unary op x → r ≡ present tree
unfolding shape-the_row-Expr-0 hidden-the_row-Expr-0 denote.Hole.Carrier.hidden
unary_present tree op a b x r is i h m = m ∙ (ap (e.Unary op) (h ∙ ap present i) ∙ sym (ap present is))

pub binary_present : (tree : Expr) (op : Binary) (a b c d x y r : Expr) → tree ≡ e.Binary op a b → c ≡ a → d ≡ b → x ≡ present c → y ≡ present d
    → r ≡ e.Binary op x y → r ≡ present tree
unfolding shape-the_row-Expr-0 hidden-the_row-Expr-0 denote.Hole.Carrier.hidden
binary_present tree op a b c d x y r is i j h k m =
    m ∙ ((λ z. e.Binary op ((h ∙ ap present i) z) ((k ∙ ap present j) z)) ∙ sym (ap present is))

pub choice_present : (tree : Expr) (t a b u c d w x y r : Expr) → tree ≡ e.Choice t a b → u ≡ t → c ≡ a → d ≡ b → w ≡ present u → x ≡ present c → y ≡ present d
    → r ≡ e.Choice w x y → r ≡ present tree
unfolding shape-the_row-Expr-0 hidden-the_row-Expr-0 denote.Hole.Carrier.hidden
choice_present tree t a b u c d w x y r is q i j g h k m =
    m ∙ ((λ z. e.Choice ((g ∙ ap present q) z) ((h ∙ ap present i) z) ((k ∙ ap present j) z)) ∙ sym (ap present is))
