-- Under no prefix, and where nothing is a parameter, a text is moved to itself.
use Rattle.std.proofs.Common.{◌≡◌, [], refl}
use Rattle.vlog_tree.specs.declared.expr.Expr.{Expr, Row_of-Expr, end_of-Expr, more_of-Expr}
use Rattle.vlog_tree.specs.declared.expr.Expr.TheVariants as e
use Rattle.elab_flat_laws.specs.Moved.{moved, moved_row}

mutual
  pub copy_is : (a : Expr) → moved [] [] a ≡ a
  copy_is (e.Number n) = refl
  copy_is (e.Name x) = refl
  copy_is (e.Select' x h (more_of-Expr a end_of-Expr)) = λ q. e.Select' x h (more_of-Expr (copy_is a q) end_of-Expr)
  copy_is (e.Part' x span h (more_of-Expr a end_of-Expr) g (more_of-Expr d end_of-Expr)) =
      λ q. e.Part' x span h (more_of-Expr (copy_is a q) end_of-Expr) g (more_of-Expr (copy_is d q) end_of-Expr)
  copy_is (e.ConstantSelect' k h (more_of-Expr a end_of-Expr)) = λ q. e.ConstantSelect' k h (more_of-Expr (copy_is a q) end_of-Expr)
  copy_is (e.ConstantPart' k span h (more_of-Expr a end_of-Expr) g (more_of-Expr d end_of-Expr)) =
      λ q. e.ConstantPart' k span h (more_of-Expr (copy_is a q) end_of-Expr) g (more_of-Expr (copy_is d q) end_of-Expr)
  copy_is (e.Cast' cast h (more_of-Expr a end_of-Expr)) = λ q. e.Cast' cast h (more_of-Expr (copy_is a q) end_of-Expr)
  copy_is (e.Paren' h (more_of-Expr a end_of-Expr)) = λ q. e.Paren' h (more_of-Expr (copy_is a q) end_of-Expr)
  copy_is (e.Concat' h row) = λ q. e.Concat' h (copies_are row q)
  copy_is (e.Repeat' h (more_of-Expr a end_of-Expr) g row) = λ q. e.Repeat' h (more_of-Expr (copy_is a q) end_of-Expr) g (copies_are row q)
  copy_is (e.Unary' op h (more_of-Expr a end_of-Expr)) = λ q. e.Unary' op h (more_of-Expr (copy_is a q) end_of-Expr)
  copy_is (e.Binary' op h (more_of-Expr a end_of-Expr) g (more_of-Expr d end_of-Expr)) =
      λ q. e.Binary' op h (more_of-Expr (copy_is a q) end_of-Expr) g (more_of-Expr (copy_is d q) end_of-Expr)
  copy_is (e.Choice' h (more_of-Expr t end_of-Expr) g (more_of-Expr a end_of-Expr) i (more_of-Expr d end_of-Expr)) =
      λ q. e.Choice' h (more_of-Expr (copy_is t q) end_of-Expr) g (more_of-Expr (copy_is a q) end_of-Expr) i (more_of-Expr (copy_is d q) end_of-Expr)

  copies_are : {n : _} (row : Row_of-Expr n) → moved_row [] [] row ≡ row
  copies_are end_of-Expr = refl
  copies_are (more_of-Expr a rest) = λ q. more_of-Expr (copy_is a q) (copies_are rest q)
