-- Each form of an expression as a left side, as the code reads it and makes it.
use Rattle.std.proofs.Common.{◌≡◌, List, [], ◌∷◌, ◌++◌, refl, sym, ap, ◌∙◌, map}
use Rattle.std.proofs.lemmas.Simd.{map-map}
use Rattle.vlog_tree.specs.declared.expr.Binary.{Binary}
use Rattle.vlog_tree.specs.declared.expr.Cast.{Cast}
use Rattle.vlog_tree.specs.declared.expr.Constant.{Constant}
use Rattle.vlog_tree.specs.declared.expr.Expr.{Expr, Row_of-Expr, end_of-Expr, more_of-Expr, items-the_row-Expr, items_hidden-the_row-Expr-1}
use Rattle.vlog_tree.specs.declared.expr.Expr.TheVariants as e
use Rattle.vlog_tree.specs.declared.expr.Expr.TheBlock.{shape-the_row-Expr-0, hidden-the_row-Expr-0, shape-the_row-Expr-1, hidden-the_row-Expr-1}
use Rattle.vlog_tree.specs.declared.expr.Name.{Name as Read}
use Rattle.vlog_tree.specs.declared.expr.Span.{Span}
use Rattle.vlog_tree.specs.declared.expr.Unary.{Unary}
use Rattle.vlog_tree.specs.declared.stmt.Lval.{Lval}
use Rattle.vlog_tree.specs.declared.stmt.Lval.TheVariants as l
use Rattle.vlog_tree.specs.declared.token.Number.{Number}
use Rattle.vlog_tree.specs.declared.valuation.Entry.{Entry}
use Rattle.vlog_tree_runs.specs.Places.{Name}
use Rattle.vlog_tree_runs.specs.Scopes.{left_of, row_left}
use Rattle.elab_flat_laws.specs.Moved.{moved, moved_left}
use Rattle.elab_flat_move.proofs.Lefts.{name_moved, select_moved, part_moved, concat_moved}
use denote.Hole.Carrier

row_lefts : {m : _} (row : Row_of-Expr m) → row_left row ≡ map left_of (items-the_row-Expr m row)
row_lefts end_of-Expr = refl
row_lefts (more_of-Expr a rest) = ap (λ xs. left_of a ∷ xs) (row_lefts rest)

list_lefts : (xs : List Expr) → row_left (hidden-the_row-Expr-1 xs) ≡ map left_of xs
list_lefts xs = row_lefts (hidden-the_row-Expr-1 xs) ∙ ap (map left_of) (items_hidden-the_row-Expr-1 xs)

-- ---- forms that name signals

name_left : (tree : Expr) (n : Read) → tree ≡ e.Name n → left_of tree ≡ l.Name n.text
name_left tree n is = ap left_of is

select_left : (tree : Expr) (n : Read) (a : Expr) → tree ≡ e.Select n a → left_of tree ≡ l.Select n.text a
unfolding shape-the_row-Expr-0 hidden-the_row-Expr-0 denote.Hole.Carrier.hidden
select_left tree n a is = ap left_of is

part_left : (tree : Expr) (n : Read) (s : Span) (a b : Expr) → tree ≡ e.Part n s a b → left_of tree ≡ l.Part n.text s a b
unfolding shape-the_row-Expr-0 hidden-the_row-Expr-0 denote.Hole.Carrier.hidden
part_left tree n s a b is = ap left_of is

concat_left : (tree : Expr) (xs : List Expr) → tree ≡ e.Concat xs → left_of tree ≡ l.Concat (map left_of xs)
unfolding shape-the_row-Expr-1 hidden-the_row-Expr-1 denote.Hole.Carrier.hidden
concat_left tree xs is = ap left_of is ∙ ap l.Concat (list_lefts xs)

module _ (pre : Name) (ps : List Entry) where
  pub name_is : (tree : Expr) (n : Read) (m x : Name) → tree ≡ e.Name n → m ≡ n.text → x ≡ pre ++ m → l.Name x ≡ moved_left pre ps (left_of tree)
  name_is tree n m x is i h = name_moved pre ps (left_of tree) n.text m x (name_left tree n is) i h

  pub select_is : (tree : Expr) (n : Read) (m x : Name) (a b y : Expr) → tree ≡ e.Select n a → m ≡ n.text → x ≡ pre ++ m → b ≡ a → y ≡ moved pre ps b → l.Select x y ≡ moved_left pre ps (left_of tree)
  select_is tree n m x a b y is i h j k = select_moved pre ps (left_of tree) n.text m x a y (select_left tree n a is) i h (k ∙ ap (moved pre ps) j)

  pub part_is : (tree : Expr) (n : Read) (m x : Name) (s : Span) (a b c d y w : Expr) → tree ≡ e.Part n s a b → m ≡ n.text → x ≡ pre ++ m → c ≡ a → d ≡ b → y ≡ moved pre ps c → w ≡ moved pre ps d
      → l.Part x s y w ≡ moved_left pre ps (left_of tree)
  part_is tree n m x s a b c d y w is i h f g j k = part_moved pre ps (left_of tree) n.text m x s a b y w (part_left tree n s a b is) i h (j ∙ ap (moved pre ps) f) (k ∙ ap (moved pre ps) g)

  pub concat_is : (tree : Expr) (xs ys : List Expr) (zs : List Lval) → tree ≡ e.Concat xs → ys ≡ xs → zs ≡ map (λ a. moved_left pre ps (left_of a)) ys → l.Concat zs ≡ moved_left pre ps (left_of tree)
  concat_is tree xs ys zs is i h =
      concat_moved pre ps (left_of tree) (map left_of xs) (map left_of ys) zs (l.Concat zs) (concat_left tree xs is) (ap (map left_of) i) (h ∙ sym (map-map (moved_left pre ps) left_of ys)) refl

  -- ---- the others have no bits

  no_parts : (tree : Expr) (r : Lval) → left_of tree ≡ l.Concat [] → r ≡ l.Concat [] → r ≡ moved_left pre ps (left_of tree)
  no_parts tree r is m = concat_moved pre ps (left_of tree) [] [] [] r is refl refl m

  pub number_is : (tree : Expr) (n : Number) (zs : List Lval) → tree ≡ e.Number n → zs ≡ [] → l.Concat zs ≡ moved_left pre ps (left_of tree)
  number_is tree n zs is z = no_parts tree (l.Concat zs) (ap left_of is) (ap l.Concat z)

  pub constant_select_is : (tree : Expr) (k : Constant) (a : Expr) (zs : List Lval) → tree ≡ e.ConstantSelect k a → zs ≡ [] → l.Concat zs ≡ moved_left pre ps (left_of tree)
  unfolding shape-the_row-Expr-0 hidden-the_row-Expr-0 denote.Hole.Carrier.hidden
  constant_select_is tree k a zs is z = no_parts tree (l.Concat zs) (ap left_of is) (ap l.Concat z)

  pub constant_part_is : (tree : Expr) (k : Constant) (s : Span) (a b : Expr) (zs : List Lval) → tree ≡ e.ConstantPart k s a b → zs ≡ [] → l.Concat zs ≡ moved_left pre ps (left_of tree)
  unfolding shape-the_row-Expr-0 hidden-the_row-Expr-0 denote.Hole.Carrier.hidden
  constant_part_is tree k s a b zs is z = no_parts tree (l.Concat zs) (ap left_of is) (ap l.Concat z)

  pub cast_is : (tree : Expr) (c : Cast) (a : Expr) (zs : List Lval) → tree ≡ e.Cast c a → zs ≡ [] → l.Concat zs ≡ moved_left pre ps (left_of tree)
  unfolding shape-the_row-Expr-0 hidden-the_row-Expr-0 denote.Hole.Carrier.hidden
  cast_is tree c a zs is z = no_parts tree (l.Concat zs) (ap left_of is) (ap l.Concat z)

  pub paren_is : (tree a : Expr) (zs : List Lval) → tree ≡ e.Paren a → zs ≡ [] → l.Concat zs ≡ moved_left pre ps (left_of tree)
  unfolding shape-the_row-Expr-0 hidden-the_row-Expr-0 denote.Hole.Carrier.hidden
  paren_is tree a zs is z = no_parts tree (l.Concat zs) (ap left_of is) (ap l.Concat z)

  pub repeat_is : (tree a : Expr) (xs : List Expr) (zs : List Lval) → tree ≡ e.Repeat a xs → zs ≡ [] → l.Concat zs ≡ moved_left pre ps (left_of tree)
  unfolding shape-the_row-Expr-0 hidden-the_row-Expr-0 shape-the_row-Expr-1 hidden-the_row-Expr-1 denote.Hole.Carrier.hidden
  repeat_is tree a xs zs is z = no_parts tree (l.Concat zs) (ap left_of is) (ap l.Concat z)

  pub unary_is : (tree : Expr) (op : Unary) (a : Expr) (zs : List Lval) → tree ≡ e.Unary op a → zs ≡ [] → l.Concat zs ≡ moved_left pre ps (left_of tree)
  unfolding shape-the_row-Expr-0 hidden-the_row-Expr-0 denote.Hole.Carrier.hidden
  unary_is tree op a zs is z = no_parts tree (l.Concat zs) (ap left_of is) (ap l.Concat z)

  pub binary_is : (tree : Expr) (op : Binary) (a b : Expr) (zs : List Lval) → tree ≡ e.Binary op a b → zs ≡ [] → l.Concat zs ≡ moved_left pre ps (left_of tree)
  unfolding shape-the_row-Expr-0 hidden-the_row-Expr-0 denote.Hole.Carrier.hidden
  binary_is tree op a b zs is z = no_parts tree (l.Concat zs) (ap left_of is) (ap l.Concat z)

  pub choice_is : (tree c a b : Expr) (zs : List Lval) → tree ≡ e.Choice c a b → zs ≡ [] → l.Concat zs ≡ moved_left pre ps (left_of tree)
  unfolding shape-the_row-Expr-0 hidden-the_row-Expr-0 denote.Hole.Carrier.hidden
  choice_is tree c a b zs is z = no_parts tree (l.Concat zs) (ap left_of is) (ap l.Concat z)
