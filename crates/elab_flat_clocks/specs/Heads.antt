-- The outermost form of an expression, as far as conditions of resets need it.
use Rattle.vlog_tree.specs.declared.expr.Binary.{Binary}
use Rattle.vlog_tree.specs.declared.expr.Expr.{Expr, end_of-Expr, more_of-Expr}
use Rattle.vlog_tree.specs.declared.expr.Expr.TheVariants as e
use Rattle.vlog_tree.specs.declared.expr.Unary.{Unary}
use Rattle.vlog_tree.specs.declared.token.Number.{Number}
use Rattle.vlog_tree_runs.specs.Places.{Name}
use Rattle.elab_flat_clocks.specs.declared.head.Head.{Head as View}
use Rattle.elab_flat_clocks.specs.declared.head.Head.TheVariants as v

pub data Head : Type 0 where
  IsName : Name → Head
  IsNumber : Number → Head
  IsUnary : Unary → Expr → Head
  IsBinary : Binary → Expr → Expr → Head
  IsOther : Head

abbrev pub head_meant : View → Head
head_meant (v.Name x) = IsName x.now
head_meant (v.Number n) = IsNumber n.now
head_meant (v.Unary op a) = IsUnary op a.now
head_meant (v.Binary op a b) = IsBinary op a.now b.now
head_meant v.Other = IsOther

abbrev pub head_of : Expr → Head
head_of (e.Name x) = IsName x.text
head_of (e.Number n) = IsNumber n
head_of (e.Unary' op h (more_of-Expr a end_of-Expr)) = IsUnary op a
head_of (e.Binary' op h (more_of-Expr a end_of-Expr) g (more_of-Expr b end_of-Expr)) = IsBinary op a b
head_of a = IsOther
