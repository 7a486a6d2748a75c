-- How a text uses memories.
use Rattle.std.specs.Prelude.{nat_eq, ◌&&◌, not, Bool, List, [], ◌∷◌, ◌++◌, Option, Some, None, map, filter}
use Rattle.std.specs.List.{flat_map, list_any}
use Rattle.std.specs.Str.{bytes_eq}
use Rattle.vlog_tree.specs.declared.expr.Expr.{Expr, Row_of-Expr, end_of-Expr, more_of-Expr}
use Rattle.vlog_tree.specs.declared.expr.Expr.TheVariants as e
use Rattle.vlog_tree.specs.declared.stmt.Lval.{Lval, Row_of-Lval, end_of-Lval, more_of-Lval}
use Rattle.vlog_tree.specs.declared.stmt.Lval.TheVariants as l
use Rattle.vlog_tree_runs.specs.declared.flat.Flat.{Flat}
use Rattle.vlog_tree_runs.specs.Places.{Name}
use Rattle.vlog_tree_runs.specs.Blocks.{lefts}
use Rattle.elab_flat_faults.specs.Drivers.{exprs_of}

-- a memory of this name is declared
abbrev pub is_memory : Flat → Name → Bool
is_memory f x = list_any (λ g. bytes_eq g.name x && not (nat_eq g.depth 0)) f.signals

-- ---- names without exactly one plain index

abbrev mutual
  pub whole_in : Expr → List Name
  whole_in (e.Number n) = []
  whole_in (e.Name x) = x.text ∷ []
  whole_in (e.Select' x h (more_of-Expr a end_of-Expr)) = whole_in a
  whole_in (e.Part' x span h (more_of-Expr a end_of-Expr) g (more_of-Expr b end_of-Expr)) = x.text ∷ whole_in a ++ whole_in b
  whole_in (e.ConstantSelect' k h (more_of-Expr a end_of-Expr)) = whole_in a
  whole_in (e.ConstantPart' k span h (more_of-Expr a end_of-Expr) g (more_of-Expr b end_of-Expr)) = whole_in a ++ whole_in b
  whole_in (e.Cast' cast h (more_of-Expr a end_of-Expr)) = whole_in a
  whole_in (e.Paren' h (more_of-Expr a end_of-Expr)) = whole_in a
  whole_in (e.Concat' h row) = row_whole_in row
  whole_in (e.Repeat' h (more_of-Expr a end_of-Expr) g row) = whole_in a ++ row_whole_in row
  whole_in (e.Unary' op h (more_of-Expr a end_of-Expr)) = whole_in a
  whole_in (e.Binary' op h (more_of-Expr a end_of-Expr) g (more_of-Expr b end_of-Expr)) = whole_in a ++ whole_in b
  whole_in (e.Choice' h (more_of-Expr c end_of-Expr) g (more_of-Expr a end_of-Expr) i (more_of-Expr b end_of-Expr)) = whole_in c ++ whole_in a ++ whole_in b

  pub row_whole_in : {m : _} → Row_of-Expr m → List Name
  row_whole_in end_of-Expr = []
  row_whole_in (more_of-Expr a rest) = whole_in a ++ row_whole_in rest

-- those of a left side, its numbers apart
abbrev mutual
  pub whole_lefts : Lval → List Name
  whole_lefts (l.Name x) = x ∷ []
  whole_lefts (l.Select x a) = []
  whole_lefts (l.Part x span a b) = x ∷ []
  whole_lefts (l.Concat' h row) = row_whole_lefts row

  pub row_whole_lefts : {m : _} → Row_of-Lval m → List Name
  row_whole_lefts end_of-Lval = []
  row_whole_lefts (more_of-Lval a rest) = whole_lefts a ++ row_whole_lefts rest

-- the names that a block without edges waits for
abbrev pub listed : Option (List Name) → List Name
listed None = []
listed (Some xs) = xs

-- the left sides of a module
abbrev pub lefts_of : Flat → List Lval
lefts_of f = map (λ a. a.left) f.assigns ++ flat_map (λ k. lefts k.body) f.blocks

-- the names that a module uses without exactly one plain index
abbrev pub wholes : Flat → List Name
wholes f = flat_map whole_in (exprs_of f) ++ flat_map whole_lefts (lefts_of f) ++ flat_map (λ k. listed k.names) f.blocks

-- ---- names with one index

pub record Indexed : Type 0 where
  pub name : Name
  pub index : Expr

abbrev mutual
  pub indexed_in : Expr → List Indexed
  indexed_in (e.Number n) = []
  indexed_in (e.Name x) = []
  indexed_in (e.Select' x h (more_of-Expr a end_of-Expr)) = record { name = x.text; index = a } ∷ indexed_in a
  indexed_in (e.Part' x span h (more_of-Expr a end_of-Expr) g (more_of-Expr b end_of-Expr)) = indexed_in a ++ indexed_in b
  indexed_in (e.ConstantSelect' k h (more_of-Expr a end_of-Expr)) = indexed_in a
  indexed_in (e.ConstantPart' k span h (more_of-Expr a end_of-Expr) g (more_of-Expr b end_of-Expr)) = indexed_in a ++ indexed_in b
  indexed_in (e.Cast' cast h (more_of-Expr a end_of-Expr)) = indexed_in a
  indexed_in (e.Paren' h (more_of-Expr a end_of-Expr)) = indexed_in a
  indexed_in (e.Concat' h row) = row_indexed_in row
  indexed_in (e.Repeat' h (more_of-Expr a end_of-Expr) g row) = indexed_in a ++ row_indexed_in row
  indexed_in (e.Unary' op h (more_of-Expr a end_of-Expr)) = indexed_in a
  indexed_in (e.Binary' op h (more_of-Expr a end_of-Expr) g (more_of-Expr b end_of-Expr)) = indexed_in a ++ indexed_in b
  indexed_in (e.Choice' h (more_of-Expr c end_of-Expr) g (more_of-Expr a end_of-Expr) i (more_of-Expr b end_of-Expr)) = indexed_in c ++ indexed_in a ++ indexed_in b

  pub row_indexed_in : {m : _} → Row_of-Expr m → List Indexed
  row_indexed_in end_of-Expr = []
  row_indexed_in (more_of-Expr a rest) = indexed_in a ++ row_indexed_in rest

-- those of a left side, its numbers apart
abbrev mutual
  pub indexed_lefts : Lval → List Indexed
  indexed_lefts (l.Name x) = []
  indexed_lefts (l.Select x a) = record { name = x; index = a } ∷ []
  indexed_lefts (l.Part x span a b) = []
  indexed_lefts (l.Concat' h row) = row_indexed_lefts row

  pub row_indexed_lefts : {m : _} → Row_of-Lval m → List Indexed
  row_indexed_lefts end_of-Lval = []
  row_indexed_lefts (more_of-Lval a rest) = indexed_lefts a ++ row_indexed_lefts rest

-- the indexed uses of memories in a module, each place of its text once
abbrev pub memory_uses : Flat → List Indexed
memory_uses f = filter (λ u. is_memory f u.name) (flat_map indexed_in (exprs_of f) ++ flat_map indexed_lefts (lefts_of f))
