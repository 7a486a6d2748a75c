-- The signals, bits and parts that an expression reads (IEEE 1364-2005, section 5.2.1).
use Rattle.std.specs.Prelude.{List, [], ◌∷◌, ◌++◌}
use Rattle.vlog_tree.specs.declared.expr.Expr.{Expr, Row_of-Expr, end_of-Expr, more_of-Expr}
use Rattle.vlog_tree.specs.declared.expr.Expr.TheVariants as e
use Rattle.vlog_tree.specs.declared.stmt.Lval.{Lval}
use Rattle.vlog_tree.specs.declared.stmt.Lval.TheVariants as l
use Rattle.elab_flat_drivers.specs.declared.parts.Part.{Part}
use Rattle.elab_flat_drivers.specs.declared.parts.Part.TheVariants as v

-- a view of a part, as the left side that it would be
abbrev pub part_meant : Part → Lval
part_meant (v.Whole x) = l.Name x.now
part_meant (v.Bit x a) = l.Select x.now a.now
part_meant (v.Bits x span a b) = l.Part x.now span a.now b.now

-- what an expression reads, each as the left side that it would be
abbrev mutual
  pub reads_of : Expr → List Lval
  reads_of (e.Number n) = []
  reads_of (e.Name y) = l.Name y.text ∷ []
  reads_of (e.Select' y h (more_of-Expr a end_of-Expr)) = l.Select y.text a ∷ reads_of a
  reads_of (e.Part' y span h (more_of-Expr a end_of-Expr) g (more_of-Expr c end_of-Expr)) = l.Part y.text span a c ∷ (reads_of a ++ reads_of c)
  reads_of (e.ConstantSelect' k h (more_of-Expr a end_of-Expr)) = reads_of a
  reads_of (e.ConstantPart' k span h (more_of-Expr a end_of-Expr) g (more_of-Expr c end_of-Expr)) = reads_of a ++ reads_of c
  reads_of (e.Cast' cast h (more_of-Expr a end_of-Expr)) = reads_of a
  reads_of (e.Paren' h (more_of-Expr a end_of-Expr)) = reads_of a
  reads_of (e.Concat' h row) = row_reads row
  reads_of (e.Repeat' h (more_of-Expr a end_of-Expr) g row) = reads_of a ++ row_reads row
  reads_of (e.Unary' op h (more_of-Expr a end_of-Expr)) = reads_of a
  reads_of (e.Binary' op h (more_of-Expr a end_of-Expr) g (more_of-Expr c end_of-Expr)) = reads_of a ++ reads_of c
  reads_of (e.Choice' h (more_of-Expr d end_of-Expr) g (more_of-Expr a end_of-Expr) i (more_of-Expr c end_of-Expr)) = reads_of d ++ (reads_of a ++ reads_of c)

  pub row_reads : {m : _} → Row_of-Expr m → List Lval
  row_reads end_of-Expr = []
  row_reads (more_of-Expr a rest) = reads_of a ++ row_reads rest
