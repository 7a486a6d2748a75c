-- What is asked of a block whose text is passed through.
use Rattle.std.specs.Prelude.{List}
use Rattle.vlog_tree.specs.declared.stmt.CaseItem.{CaseItem}
use Rattle.vlog_tree.specs.declared.stmt.Lval.{Lval}
use Rattle.vlog_tree.specs.declared.stmt.Stmt.{Stmt, Row_of-Stmt, end_of-Stmt, more_of-Stmt, Row_of-CaseItem, end_of-CaseItem, more_of-CaseItem}
use Rattle.vlog_tree.specs.declared.stmt.Stmt.TheVariants as s
use Rattle.vlog_tree_runs.specs.declared.flat.Signal.{Signal}
use Rattle.vlog_tree_runs.specs.Places.{Among}
use Rattle.vlog_tree_runs.specs.Blocks.{labels_in}
use Rattle.elab_flat_faults.specs.Drivers.{parts_of}
use Rattle.elab_flat_drivers.specs.Claims.{IsPartReady}
use Rattle.elab_step_flow.specs.Cases.{at_rest, IsComparable}

-- the numbers without names in a left side have values
abbrev pub IsLeftReady : Lval → Type 0
IsLeftReady left = (q : Lval) → Among (parts_of left) q → IsPartReady q

-- so have those of all left sides of a statement, and what its case statements compare can be taken at rest
abbrev mutual
  pub IsReady : List Signal → Stmt → Type 0
  IsReady gs s.Empty = Unit {0}
  IsReady gs (s.Block' n h row) = AreReady gs row
  IsReady gs (s.If' a h (more_of-Stmt body end_of-Stmt)) = IsReady gs body
  IsReady gs (s.IfElse' a h (more_of-Stmt body end_of-Stmt) g (more_of-Stmt other end_of-Stmt)) = IsReady gs body × IsReady gs other
  IsReady gs (s.Case' kind a h row) = IsComparable (at_rest gs) a (labels_in row) × AreItemsReady gs row
  IsReady gs (s.Blocking left right) = IsLeftReady left
  IsReady gs (s.Nonblocking left right) = IsLeftReady left

  pub AreReady : {m : _} → List Signal → Row_of-Stmt m → Type 0
  AreReady gs end_of-Stmt = Unit {0}
  AreReady gs (more_of-Stmt a rest) = IsReady gs a × AreReady gs rest

  pub AreItemsReady : {m : _} → List Signal → Row_of-CaseItem m → Type 0
  AreItemsReady gs end_of-CaseItem = Unit {0}
  AreItemsReady gs (more_of-CaseItem labels body rest) = IsReady gs body × AreItemsReady gs rest

-- statements, and the bodies of items
abbrev pub EachReady : List Signal → List Stmt → Type 0
EachReady gs xs = (a : Stmt) → Among xs a → IsReady gs a

abbrev pub EachItemReady : List Signal → List CaseItem → Type 0
EachItemReady gs xs = (i : CaseItem) → Among xs i → IsReady gs i.body
