-- What the names of a set stand for in rows of nodes, and which of them a formula reads.
use Rattle.std.specs.Prelude.{ℕ, suc, List, [], ◌∷◌, ◌++◌, is_some, if◌then◌else◌}
use Rattle.std.specs.Borrow.{Bor}
use Rattle.std.specs.Option.{option_to_list}
use Rattle.vlog_tree.specs.declared.expr.Expr.{Expr, Row_of-Expr, end_of-Expr, more_of-Expr}
use Rattle.vlog_tree.specs.declared.expr.Expr.TheVariants as e
use Rattle.vlog_tree.specs.declared.expr.Name.{Name as Read}
use Rattle.set_tree.specs.declared.set.Name.{Name}
use Rattle.elab_step_expr.specs.declared.leaves.Leaf.{Leaf}
use Rattle.elab_step_expr.specs.Leaves.{leaf_at}

-- a name at an offset
abbrev pub leaf_of : Name → ℕ → ℕ → Leaf
leaf_of n offset i = record { name = n.name; offset = offset; width = n.width; low = n.low; signed = n.signed; node = i }

-- the declared names in the row of an offset
abbrev pub row_leaves : List Name → ℕ → List ℕ → List Leaf
row_leaves [] offset row = []
row_leaves (n ∷ ns) offset [] = []
row_leaves (n ∷ ns) offset (i ∷ row) = leaf_of n offset i ∷ row_leaves ns offset row

-- the declared names in rows, the first of which has this offset
abbrev pub leaves_from : List Name → ℕ → List (List ℕ) → List Leaf
leaves_from names offset [] = []
leaves_from names offset (row ∷ rows) = row_leaves names offset row ++ leaves_from names (suc offset) rows

-- a name that is borrowed
abbrev pub read_meant : Bor Read → Read
read_meant x = x.now

-- the names in a formula, from the left
abbrev mutual
  pub names_in : Expr → List Read
  names_in (e.Number n) = []
  names_in (e.Name x) = x ∷ []
  names_in (e.Select' x h (more_of-Expr a end_of-Expr)) = x ∷ names_in a
  names_in (e.Part' x span h (more_of-Expr a end_of-Expr) g (more_of-Expr b end_of-Expr)) = x ∷ names_in a ++ names_in b
  names_in (e.ConstantSelect' k h (more_of-Expr a end_of-Expr)) = names_in a
  names_in (e.ConstantPart' k span h (more_of-Expr a end_of-Expr) g (more_of-Expr b end_of-Expr)) = names_in a ++ names_in b
  names_in (e.Cast' cast h (more_of-Expr a end_of-Expr)) = names_in a
  names_in (e.Paren' h (more_of-Expr a end_of-Expr)) = names_in a
  names_in (e.Concat' h row) = row_names_in row
  names_in (e.Repeat' h (more_of-Expr a end_of-Expr) g row) = names_in a ++ row_names_in row
  names_in (e.Unary' op h (more_of-Expr a end_of-Expr)) = names_in a
  names_in (e.Binary' op h (more_of-Expr a end_of-Expr) g (more_of-Expr b end_of-Expr)) = names_in a ++ names_in b
  names_in (e.Choice' h (more_of-Expr c end_of-Expr) g (more_of-Expr a end_of-Expr) i (more_of-Expr b end_of-Expr)) = names_in c ++ (names_in a ++ names_in b)

  pub row_names_in : {m : _} → Row_of-Expr m → List Read
  row_names_in end_of-Expr = []
  row_names_in (more_of-Expr a rest) = names_in a ++ row_names_in rest

-- the leaf of a name that is read, where it has one
abbrev pub leaf_read : List Leaf → Read → List Leaf
leaf_read ls x = option_to_list (leaf_at ls x.text x.offset)

-- the leaves with that of a name, unless one is there
abbrev pub with_leaf : List Leaf → List Leaf → Read → List Leaf
with_leaf all ls x = if is_some (leaf_at ls x.text x.offset) then ls else ls ++ leaf_read all x

-- with those of these names, each once
abbrev pub with_leaves : List Leaf → List Leaf → List Read → List Leaf
with_leaves all ls [] = ls
with_leaves all ls (x ∷ xs) = with_leaves all (with_leaf all ls x) xs

-- the leaves of a formula's names
abbrev pub leaves_read : List Leaf → Expr → List Leaf
leaves_read all a = with_leaves all [] (names_in a)
