-- Which expressions can be assigned, by the names of signals.
use Rattle.std.specs.Prelude.{Bool, true, false, ◌&&◌, List}
use Rattle.vlog_tree.specs.declared.expr.Expr.{Expr, Row_of-Expr, end_of-Expr, more_of-Expr}
use Rattle.vlog_tree.specs.declared.expr.Expr.TheVariants as e
use Rattle.vlog_tree_runs.specs.Places.{Name}
use Rattle.vlog_tree_runs.specs.Contents.{is_among}

abbrev mutual
  pub is_assignable : List Name → Expr → Bool
  is_assignable ns (e.Name x) = is_among ns x.text
  is_assignable ns (e.Select' x h a) = is_among ns x.text
  is_assignable ns (e.Part' x span h a g b) = is_among ns x.text
  is_assignable ns (e.Concat' h row) = are_assignable ns row
  is_assignable ns a = false

  pub are_assignable : {m : _} → List Name → Row_of-Expr m → Bool
  are_assignable ns end_of-Expr = true
  are_assignable ns (more_of-Expr a rest) = is_assignable ns a && are_assignable ns rest
