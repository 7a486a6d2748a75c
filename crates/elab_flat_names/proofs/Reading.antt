-- The names that expressions read, and the numbers of left sides, by their parts.
use Rattle.std.proofs.Common.{◌≡◌, List, ◌∷◌, ◌++◌, refl, sym, ap, ◌∙◌}
use Rattle.std.specs.List.{flat_map}
use Rattle.std.proofs.lemmas.List.{append_assoc}
use Rattle.vlog_tree.specs.declared.expr.Expr.{Expr, Row_of-Expr, end_of-Expr, more_of-Expr}
use Rattle.vlog_tree.specs.declared.expr.Expr.TheVariants as e
use Rattle.vlog_tree.specs.declared.stmt.Lval.{Lval, Row_of-Lval, end_of-Lval, more_of-Lval}
use Rattle.vlog_tree.specs.declared.stmt.Lval.TheVariants as l
use Rattle.vlog_tree_runs.specs.Places.{Name}
use Rattle.vlog_tree_runs.specs.Blocks.{left_names}
use Rattle.elab_flat_laws.proofs.Lists.{flat_append}
use Rattle.elab_flat_faults.specs.Texts.{names_in, row_names_in, numbers_in, row_numbers_in}
use Rattle.elab_flat_faults.specs.Drivers.{parts_of, row_parts_of}
use Rattle.elab_flat_drivers.specs.Parts.{reads_of, row_reads}

two : (xs ys : List Lval) (us vs : List Name) → flat_map left_names xs ≡ us → flat_map left_names ys ≡ vs → flat_map left_names (xs ++ ys) ≡ us ++ vs
two xs ys us vs e f = flat_append left_names xs ys ∙ (λ i. e i ++ f i)

mutual
  pub reads_names : (a : Expr) → flat_map left_names (reads_of a) ≡ names_in a
  reads_names (e.Number n) = refl
  reads_names (e.Name y) = refl
  reads_names (e.Select' y h (more_of-Expr a end_of-Expr)) = ap (λ z. y.text ∷ z) (reads_names a)
  reads_names (e.Part' y span h (more_of-Expr a end_of-Expr) g (more_of-Expr c end_of-Expr)) =
      ap (λ z. y.text ∷ z) (two (reads_of a) (reads_of c) (names_in a) (names_in c) (reads_names a) (reads_names c))
  reads_names (e.ConstantSelect' k h (more_of-Expr a end_of-Expr)) = reads_names a
  reads_names (e.ConstantPart' k span h (more_of-Expr a end_of-Expr) g (more_of-Expr c end_of-Expr)) =
      two (reads_of a) (reads_of c) (names_in a) (names_in c) (reads_names a) (reads_names c)
  reads_names (e.Cast' cast h (more_of-Expr a end_of-Expr)) = reads_names a
  reads_names (e.Paren' h (more_of-Expr a end_of-Expr)) = reads_names a
  reads_names (e.Concat' h row) = row_reads_names row
  reads_names (e.Repeat' h (more_of-Expr a end_of-Expr) g row) = two (reads_of a) (row_reads row) (names_in a) (row_names_in row) (reads_names a) (row_reads_names row)
  reads_names (e.Unary' op h (more_of-Expr a end_of-Expr)) = reads_names a
  reads_names (e.Binary' op h (more_of-Expr a end_of-Expr) g (more_of-Expr c end_of-Expr)) =
      two (reads_of a) (reads_of c) (names_in a) (names_in c) (reads_names a) (reads_names c)
  reads_names (e.Choice' h (more_of-Expr d end_of-Expr) g (more_of-Expr a end_of-Expr) i (more_of-Expr c end_of-Expr)) =
      two (reads_of d) (reads_of a ++ reads_of c) (names_in d) (names_in a ++ names_in c) (reads_names d) (two (reads_of a) (reads_of c) (names_in a) (names_in c) (reads_names a) (reads_names c))
      ∙ sym (append_assoc (names_in d) (names_in a) (names_in c))

  row_reads_names : {m : _} (row : Row_of-Expr m) → flat_map left_names (row_reads row) ≡ row_names_in row
  row_reads_names end_of-Expr = refl
  row_reads_names (more_of-Expr a rest) = two (reads_of a) (row_reads rest) (names_in a) (row_names_in rest) (reads_names a) (row_reads_names rest)

mutual
  pub parts_numbers : (left : Lval) → flat_map numbers_in (parts_of left) ≡ numbers_in left
  parts_numbers (l.Name x) = refl
  parts_numbers (l.Select x a) = refl
  parts_numbers (l.Part x span a c) = refl
  parts_numbers (l.Concat' g row) = row_parts_numbers row

  row_parts_numbers : {n : _} (row : Row_of-Lval n) → flat_map numbers_in (row_parts_of row) ≡ row_numbers_in row
  row_parts_numbers end_of-Lval = refl
  row_parts_numbers (more_of-Lval a rest) = flat_append numbers_in (parts_of a) (row_parts_of rest) ∙ (λ i. parts_numbers a i ++ row_parts_numbers rest i)
