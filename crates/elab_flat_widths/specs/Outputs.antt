-- Expressions as left sides, by their parts (IEEE 1364-2005, section 12.3.9.2).
use Rattle.std.specs.Prelude.{◌≡◌, true, List}
use Rattle.vlog_tree.specs.declared.expr.Expr.{Expr}
use Rattle.vlog_tree.specs.declared.stmt.Lval.{Lval}
use Rattle.vlog_tree_runs.specs.Places.{Name, Among}
use Rattle.vlog_tree_runs.specs.Blocks.{left_names}
use Rattle.vlog_tree_runs.specs.Contents.{is_among}
use Rattle.vlog_tree_runs.specs.Scopes.{left_of}
use Rattle.elab_flat_faults.specs.Drivers.{parts_of}

abbrev pub expr_parts : Expr → List Lval
expr_parts a = parts_of (left_of a)

-- a part, and all parts, name one of these
abbrev pub IsOf : List Name → Lval → Type 0
IsOf ns q = (x : Name) → Among (left_names q) x → is_among ns x ≡ true

abbrev pub AreOf : List Name → List Lval → Type 0
AreOf ns qs = (q : Lval) → Among qs q → IsOf ns q
