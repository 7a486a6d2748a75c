-- A text under a prefix: its names prefixed, its parameters replaced by their numbers.
use Rattle.std.specs.Prelude.{List, ◌++◌, Option, Some, None, false, map}
use Rattle.vlog_tree.specs.declared.expr.Constant.{Constant}
use Rattle.vlog_tree.specs.declared.expr.Expr.{Expr, Row_of-Expr, end_of-Expr, more_of-Expr}
use Rattle.vlog_tree.specs.declared.expr.Expr.TheVariants as e
use Rattle.vlog_tree.specs.declared.expr.Name.{Name as Read}
use Rattle.vlog_tree.specs.declared.expr.Span.{Span}
use Rattle.vlog_tree.specs.declared.stmt.Labels.{Labels}
use Rattle.vlog_tree.specs.declared.stmt.Labels.TheVariants as b
use Rattle.vlog_tree.specs.declared.stmt.Lval.{Lval, Row_of-Lval, end_of-Lval, more_of-Lval}
use Rattle.vlog_tree.specs.declared.stmt.Lval.TheVariants as l
use Rattle.vlog_tree.specs.declared.stmt.Stmt.{Stmt, Row_of-Stmt, end_of-Stmt, more_of-Stmt, Row_of-CaseItem, end_of-CaseItem, more_of-CaseItem}
use Rattle.vlog_tree.specs.declared.stmt.Stmt.TheVariants as s
use Rattle.vlog_tree.specs.declared.valuation.Entry.{Entry}
use Rattle.vlog_tree.specs.Valuation.{meaning_of}
use Rattle.vlog_tree_runs.specs.declared.flat.Signal.{Signal}
use Rattle.vlog_tree_runs.specs.Places.{Name}

-- the number that a parameter stands for
abbrev pub number_for : Constant → Expr
number_for k = e.Number (record { size = Some k.width; signed = k.signed; value = k.value; wild = 0; wildcard = false; plain = false })

abbrev pub under : Name → Read → Read
under pre x = record { text = pre ++ x.text; offset = x.offset }

abbrev pub moved_name : Name → Option Constant → Read → Expr
moved_name pre None x = e.Name (under pre x)
moved_name pre (Some k) x = number_for k

abbrev pub moved_select : Name → Option Constant → Read → Expr → Expr
moved_select pre None x a = e.Select' (under pre x) tt (more_of-Expr a end_of-Expr)
moved_select pre (Some k) x a = e.ConstantSelect' k tt (more_of-Expr a end_of-Expr)

abbrev pub moved_part : Name → Option Constant → Read → Span → Expr → Expr → Expr
moved_part pre None x span a b = e.Part' (under pre x) span tt (more_of-Expr a end_of-Expr) tt (more_of-Expr b end_of-Expr)
moved_part pre (Some k) x span a b = e.ConstantPart' k span tt (more_of-Expr a end_of-Expr) tt (more_of-Expr b end_of-Expr)

abbrev mutual
  pub moved : Name → List Entry → Expr → Expr
  moved pre ps (e.Number n) = e.Number n
  moved pre ps (e.Name x) = moved_name pre (meaning_of ps x) x
  moved pre ps (e.Select' x h (more_of-Expr a end_of-Expr)) = moved_select pre (meaning_of ps x) x (moved pre ps a)
  moved pre ps (e.Part' x span h (more_of-Expr a end_of-Expr) g (more_of-Expr b end_of-Expr)) =
      moved_part pre (meaning_of ps x) x span (moved pre ps a) (moved pre ps b)
  moved pre ps (e.ConstantSelect' k h (more_of-Expr a end_of-Expr)) = e.ConstantSelect' k h (more_of-Expr (moved pre ps a) end_of-Expr)
  moved pre ps (e.ConstantPart' k span h (more_of-Expr a end_of-Expr) g (more_of-Expr b end_of-Expr)) =
      e.ConstantPart' k span h (more_of-Expr (moved pre ps a) end_of-Expr) g (more_of-Expr (moved pre ps b) end_of-Expr)
  moved pre ps (e.Cast' cast h (more_of-Expr a end_of-Expr)) = e.Cast' cast h (more_of-Expr (moved pre ps a) end_of-Expr)
  moved pre ps (e.Paren' h (more_of-Expr a end_of-Expr)) = e.Paren' h (more_of-Expr (moved pre ps a) end_of-Expr)
  moved pre ps (e.Concat' h row) = e.Concat' h (moved_row pre ps row)
  moved pre ps (e.Repeat' h (more_of-Expr a end_of-Expr) g row) = e.Repeat' h (more_of-Expr (moved pre ps a) end_of-Expr) g (moved_row pre ps row)
  moved pre ps (e.Unary' op h (more_of-Expr a end_of-Expr)) = e.Unary' op h (more_of-Expr (moved pre ps a) end_of-Expr)
  moved pre ps (e.Binary' op h (more_of-Expr a end_of-Expr) g (more_of-Expr b end_of-Expr)) =
      e.Binary' op h (more_of-Expr (moved pre ps a) end_of-Expr) g (more_of-Expr (moved pre ps b) end_of-Expr)
  moved pre ps (e.Choice' h (more_of-Expr c end_of-Expr) g (more_of-Expr a end_of-Expr) i (more_of-Expr b end_of-Expr)) =
      e.Choice' h (more_of-Expr (moved pre ps c) end_of-Expr) g (more_of-Expr (moved pre ps a) end_of-Expr) i (more_of-Expr (moved pre ps b) end_of-Expr)

  pub moved_row : {m : _} → Name → List Entry → Row_of-Expr m → Row_of-Expr m
  moved_row pre ps end_of-Expr = end_of-Expr
  moved_row pre ps (more_of-Expr a rest) = more_of-Expr (moved pre ps a) (moved_row pre ps rest)

-- the name of a left side is a signal's
abbrev mutual
  pub moved_left : Name → List Entry → Lval → Lval
  moved_left pre ps (l.Name x) = l.Name (pre ++ x)
  moved_left pre ps (l.Select x a) = l.Select (pre ++ x) (moved pre ps a)
  moved_left pre ps (l.Part x span a b) = l.Part (pre ++ x) span (moved pre ps a) (moved pre ps b)
  moved_left pre ps (l.Concat' h row) = l.Concat' h (moved_lefts pre ps row)

  pub moved_lefts : {m : _} → Name → List Entry → Row_of-Lval m → Row_of-Lval m
  moved_lefts pre ps end_of-Lval = end_of-Lval
  moved_lefts pre ps (more_of-Lval a rest) = more_of-Lval (moved_left pre ps a) (moved_lefts pre ps rest)

abbrev pub moved_labels : Name → List Entry → Labels → Labels
moved_labels pre ps (b.Exprs as') = b.Exprs (map (moved pre ps) as')
moved_labels pre ps b.Default = b.Default

abbrev mutual
  pub moved_stmt : Name → List Entry → Stmt → Stmt
  moved_stmt pre ps s.Empty = s.Empty
  moved_stmt pre ps (s.Block' n h row) = s.Block' n h (moved_stmts pre ps row)
  moved_stmt pre ps (s.If' a h (more_of-Stmt x end_of-Stmt)) = s.If' (moved pre ps a) h (more_of-Stmt (moved_stmt pre ps x) end_of-Stmt)
  moved_stmt pre ps (s.IfElse' a h (more_of-Stmt x end_of-Stmt) g (more_of-Stmt y end_of-Stmt)) =
      s.IfElse' (moved pre ps a) h (more_of-Stmt (moved_stmt pre ps x) end_of-Stmt) g (more_of-Stmt (moved_stmt pre ps y) end_of-Stmt)
  moved_stmt pre ps (s.Case' kind a h row) = s.Case' kind (moved pre ps a) h (moved_items pre ps row)
  moved_stmt pre ps (s.Blocking left right) = s.Blocking (moved_left pre ps left) (moved pre ps right)
  moved_stmt pre ps (s.Nonblocking left right) = s.Nonblocking (moved_left pre ps left) (moved pre ps right)

  pub moved_stmts : {m : _} → Name → List Entry → Row_of-Stmt m → Row_of-Stmt m
  moved_stmts pre ps end_of-Stmt = end_of-Stmt
  moved_stmts pre ps (more_of-Stmt a rest) = more_of-Stmt (moved_stmt pre ps a) (moved_stmts pre ps rest)

  pub moved_items : {m : _} → Name → List Entry → Row_of-CaseItem m → Row_of-CaseItem m
  moved_items pre ps end_of-CaseItem = end_of-CaseItem
  moved_items pre ps (more_of-CaseItem labels body rest) = more_of-CaseItem (moved_labels pre ps labels) (moved_stmt pre ps body) (moved_items pre ps rest)

abbrev pub moved_signal : Name → Signal → Signal
moved_signal pre g = record g { name = pre ++ g.name }
