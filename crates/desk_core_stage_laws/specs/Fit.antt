-- What is known of texts in which no fault stands.
use Rattle.std.specs.Prelude.{List}
use Rattle.vlog_tree.specs.declared.expr.Expr.{Expr}
use Rattle.vlog_tree.specs.declared.item.Assign.{Assign}
use Rattle.vlog_tree.specs.declared.stmt.Lval.{Lval}
use Rattle.vlog_tree.specs.Valuation.{IsLength}
use Rattle.vlog_tree.specs.Value.{IsFormed, IsDefined, HasConstantParts}
use Rattle.vlog_tree_runs.specs.Places.{Among, Place, pieces, total}
use Rattle.vlog_tree_runs.specs.Blocks.{is_parameter}
use Rattle.elab_flat_faults.specs.Texts.{Compared}
use Rattle.elab_flat_faults.specs.Constants.{at_rest, Taken, alone, compared, assigned_to, HasConstantSpans, IsLeftFormed}

-- an expression in its place: what must be constant is so, lengths are from 1 to 64, and no divisor is 0
pub record IsFit (p : Place) (t : Taken) : Type 0 where
  pub constant : HasConstantParts (is_parameter p) t.value
  pub formed : IsFormed (at_rest p) t.value
  pub defined : IsDefined (at_rest p) t.value t.width t.signed

-- a left side: its spans are constant, and its parts and itself have from 1 to 64 bits
pub record IsFitLeft (p : Place) (left : Lval) : Type 0 where
  pub spans : HasConstantSpans (is_parameter p) left
  pub formed : IsLeftFormed (at_rest p) left
  pub length : IsLength (total (pieces p (λ x. 0) left))

-- the assignments, the expressions by themselves, the case expressions with their labels, and the left sides of a block
pub record AreFit (p : Place) (stores : List Assign) (singles : List Expr) (cases : List Compared) (sides : List Lval) : Type 0 where
  pub assigned : (a : Assign) → Among stores a → IsFit p (assigned_to p a)
  pub single : (a : Expr) → Among singles a → IsFit p (alone (at_rest p) a)
  pub matched : (k : Compared) (t : Taken) → Among cases k → Among (compared (at_rest p) k) t → IsFit p t
  pub left_sides : (left : Lval) → Among sides left → IsFitLeft p left
