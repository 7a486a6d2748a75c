-- Expressions in another form.
use Rattle.std.specs.Prelude.{◌≡◌, ◌↔◌, List}
use Rattle.vlog_tree.specs.declared.expr.Expr.{Expr}
use Rattle.vlog_tree.specs.declared.valuation.Entry.{Entry}
use Rattle.vlog_tree.specs.Value.{IsFormed, operand_of, own_defined, own_integer}
use Rattle.vlog_tree_values.specs.Shapes.{each_row, each_formed}

-- the same length, sign and value wherever it stands, and well formed where the other is
pub record MeanSame (v : List Entry) (a b : Expr) : Type 0 where
  pub operand : operand_of v b ≡ operand_of v a
  pub formed : IsFormed v b ↔ IsFormed v a

-- by itself the same integer, defined where the other is, and well formed where the other is
pub record CountSame (v : List Entry) (a b : Expr) : Type 0 where
  pub number : own_integer (operand_of v b) ≡ own_integer (operand_of v a)
  pub defined : own_defined (operand_of v b) ≡ own_defined (operand_of v a)
  pub formed : IsFormed v b ↔ IsFormed v a

-- the same of the parts of a concatenation, joined
pub record RowSame (v : List Entry) (as' bs : List Expr) : Type 0 where
  pub operand : each_row v bs ≡ each_row v as'
  pub formed : each_formed v bs ↔ each_formed v as'
