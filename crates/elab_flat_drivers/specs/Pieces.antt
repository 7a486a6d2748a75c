-- What stands in a statement, in the order of its text.
use Rattle.std.specs.Prelude.{List, [], ◌∷◌, ◌++◌, map}
use Rattle.vlog_tree.specs.declared.expr.Expr.{Expr}
use Rattle.vlog_tree.specs.declared.stmt.CaseItem.{CaseItem}
use Rattle.vlog_tree.specs.declared.stmt.Lval.{Lval}
use Rattle.vlog_tree.specs.declared.stmt.Stmt.{Stmt, Row_of-Stmt, end_of-Stmt, more_of-Stmt, Row_of-CaseItem, end_of-CaseItem, more_of-CaseItem}
use Rattle.vlog_tree.specs.declared.stmt.Stmt.TheVariants as s
use Rattle.vlog_tree_runs.specs.Blocks.{exprs_in}
use Rattle.elab_flat_drivers.specs.declared.pieces.Piece.{Piece}
use Rattle.elab_flat_drivers.specs.declared.pieces.Piece.TheVariants as v

-- a condition, a case expression or a label is tested, or a left side is assigned by `=` or by `<=`
pub data Action : Type 0 where
  Tests : Expr → Action
  Assigns : Lval → Expr → Action
  Schedules : Lval → Expr → Action

abbrev pub piece_meant : Piece → Action
piece_meant (v.Test a) = Tests a.now
piece_meant (v.Blocking left right) = Assigns left.now right.now
piece_meant (v.Nonblocking left right) = Schedules left.now right.now

abbrev mutual
  pub actions : Stmt → List Action
  actions s.Empty = []
  actions (s.Block' n h row) = row_actions row
  actions (s.If' a h (more_of-Stmt x end_of-Stmt)) = Tests a ∷ actions x
  actions (s.IfElse' a h (more_of-Stmt x end_of-Stmt) g (more_of-Stmt y end_of-Stmt)) = Tests a ∷ (actions x ++ actions y)
  actions (s.Case' kind a h row) = Tests a ∷ case_actions row
  actions (s.Blocking left right) = Assigns left right ∷ []
  actions (s.Nonblocking left right) = Schedules left right ∷ []

  pub row_actions : {m : _} → Row_of-Stmt m → List Action
  row_actions end_of-Stmt = []
  row_actions (more_of-Stmt a rest) = actions a ++ row_actions rest

  pub case_actions : {m : _} → Row_of-CaseItem m → List Action
  case_actions end_of-CaseItem = []
  case_actions (more_of-CaseItem labels body rest) = (map Tests (exprs_in labels) ++ actions body) ++ case_actions rest

abbrev pub item_actions : CaseItem → List Action
item_actions i = map Tests (exprs_in i.labels) ++ actions i.body
