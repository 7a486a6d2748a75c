-- What views into the text of a module stand for.
use Rattle.std.specs.Borrow.{Bor}
use Rattle.vlog_tree.specs.declared.expr.Expr.{Expr}
use Rattle.vlog_tree.specs.declared.stmt.Lval.{Lval}

abbrev pub expr_meant : Bor Expr → Expr
expr_meant a = a.now

abbrev pub left_meant : Bor Lval → Lval
left_meant q = q.now
