-- What is asked of the numbers in a module that is freed of its memories.
use Rattle.std.specs.Prelude.{◌≡◌, ◌≤◌, nat_eq, true, false, List, [], ◌∷◌}
use Rattle.vlog_tree.specs.declared.expr.Expr.{Expr, Row_of-Expr, end_of-Expr, more_of-Expr}
use Rattle.vlog_tree.specs.declared.expr.Expr.TheVariants as e
use Rattle.vlog_tree.specs.declared.expr.Span.{Span}
use Rattle.vlog_tree.specs.declared.expr.Span.TheVariants as w
use Rattle.vlog_tree.specs.declared.item.Assign.{Assign}
use Rattle.vlog_tree.specs.declared.stmt.CaseItem.{CaseItem}
use Rattle.vlog_tree.specs.declared.stmt.Labels.{Labels}
use Rattle.vlog_tree.specs.declared.stmt.Labels.TheVariants as g
use Rattle.vlog_tree.specs.declared.stmt.Lval.{Lval, Row_of-Lval, end_of-Lval, more_of-Lval}
use Rattle.vlog_tree.specs.declared.stmt.Lval.TheVariants as l
use Rattle.vlog_tree.specs.declared.stmt.Stmt.{Stmt, Row_of-Stmt, end_of-Stmt, more_of-Stmt, Row_of-CaseItem, end_of-CaseItem, more_of-CaseItem}
use Rattle.vlog_tree.specs.declared.stmt.Stmt.TheVariants as s
use Rattle.vlog_tree.specs.declared.valuation.Entry.{Entry}
use Rattle.vlog_tree.specs.Valuation.{IsLength, depth_of}
use Rattle.vlog_tree.specs.Value.{IsFormed, IsDefined, width_of, sign_of}
use Rattle.vlog_tree_runs.specs.declared.flat.Always.{Always}
use Rattle.vlog_tree_runs.specs.declared.flat.Flat.{Flat}
use Rattle.vlog_tree_runs.specs.declared.flat.Signal.{Signal}
use Rattle.vlog_tree_runs.specs.Places.{Among, read}
use Rattle.vlog_tree_runs.specs.Cycles.{flat_place}
use Rattle.elab_flat_faults.specs.Constants.{at_rest}
use Rattle.elab_flat_faults.specs.Drivers.{parts_of}
use Rattle.mem_laws.specs.Spread.{is_constant, lefts_length}

-- an expression has a value by itself
abbrev pub HasOwnValue : List Entry → Expr → Type 0
HasOwnValue v a = IsFormed v a × IsDefined v a (width_of v a) (sign_of v a)

-- an index that is constant has a value
abbrev pub IsEvaluable : Expr → Type 0
IsEvaluable a = is_constant a ≡ true → HasOwnValue [] a

-- so has each constant index of a memory in an expression
abbrev mutual
  pub HasEvaluable : List Entry → Expr → Type 0
  HasEvaluable v (e.Number n) = Unit {0}
  HasEvaluable v (e.Name x) = Unit {0}
  HasEvaluable v (e.Select' x h (more_of-Expr a end_of-Expr)) = (nat_eq (depth_of v x) 0 ≡ false → IsEvaluable a) × HasEvaluable v a
  HasEvaluable v (e.Part' x span h (more_of-Expr a end_of-Expr) g (more_of-Expr b end_of-Expr)) = HasEvaluable v a × HasEvaluable v b
  HasEvaluable v (e.ConstantSelect' k h (more_of-Expr a end_of-Expr)) = HasEvaluable v a
  HasEvaluable v (e.ConstantPart' k span h (more_of-Expr a end_of-Expr) g (more_of-Expr b end_of-Expr)) = HasEvaluable v a × HasEvaluable v b
  HasEvaluable v (e.Cast' cast h (more_of-Expr a end_of-Expr)) = HasEvaluable v a
  HasEvaluable v (e.Paren' h (more_of-Expr a end_of-Expr)) = HasEvaluable v a
  HasEvaluable v (e.Concat' h row) = HaveEvaluable v row
  HasEvaluable v (e.Repeat' h (more_of-Expr a end_of-Expr) g row) = HasEvaluable v a × HaveEvaluable v row
  HasEvaluable v (e.Unary' op h (more_of-Expr a end_of-Expr)) = HasEvaluable v a
  HasEvaluable v (e.Binary' op h (more_of-Expr a end_of-Expr) g (more_of-Expr b end_of-Expr)) = HasEvaluable v a × HasEvaluable v b
  HasEvaluable v (e.Choice' h (more_of-Expr c end_of-Expr) g (more_of-Expr a end_of-Expr) i (more_of-Expr b end_of-Expr)) =
      HasEvaluable v c × HasEvaluable v a × HasEvaluable v b

  pub HaveEvaluable : {m : _} → List Entry → Row_of-Expr m → Type 0
  HaveEvaluable v end_of-Expr = Unit {0}
  HaveEvaluable v (more_of-Expr a rest) = HasEvaluable v a × HaveEvaluable v rest

-- each of a list
abbrev pub EachEvaluable : List Entry → List Expr → Type 0
EachEvaluable v [] = Unit {0}
EachEvaluable v (a ∷ rest) = HasEvaluable v a × EachEvaluable v rest

-- ---- left sides

-- the numbers that a part-select's length depends on have values
abbrev pub IsSpanEvaluable : List Entry → Span → Expr → Expr → Type 0
IsSpanEvaluable v w.Fixed a b = HasOwnValue v a × HasOwnValue v b
IsSpanEvaluable v w.Up a b = HasOwnValue v b
IsSpanEvaluable v w.Down a b = HasOwnValue v b

-- so have they in a left side, and each constant index of a memory
abbrev mutual
  pub HasEvaluableLeft : List Entry → Lval → Type 0
  HasEvaluableLeft v (l.Name x) = Unit {0}
  HasEvaluableLeft v (l.Select x a) = (nat_eq (depth_of v (read x)) 0 ≡ false → IsEvaluable a) × HasEvaluable v a
  HasEvaluableLeft v (l.Part x span a b) = HasEvaluable v a × HasEvaluable v b × IsSpanEvaluable v span a b
  HasEvaluableLeft v (l.Concat' h row) = HaveEvaluableLefts v row

  pub HaveEvaluableLefts : {m : _} → List Entry → Row_of-Lval m → Type 0
  HaveEvaluableLefts v end_of-Lval = Unit {0}
  HaveEvaluableLefts v (more_of-Lval a rest) = HasEvaluableLeft v a × HaveEvaluableLefts v rest

abbrev pub EachEvaluableLeft : List Entry → List Lval → Type 0
EachEvaluableLeft v [] = Unit {0}
EachEvaluableLeft v (a ∷ rest) = HasEvaluableLeft v a × EachEvaluableLeft v rest

-- ---- statements

abbrev pub HasEvaluableLabels : List Entry → Labels → Type 0
HasEvaluableLabels v (g.Exprs as') = EachEvaluable v as'
HasEvaluableLabels v g.Default = Unit {0}

-- so have they in a statement, and what `<=` assigns has at most 64 bits
abbrev mutual
  pub HasEvaluableStmt : List Entry → Stmt → Type 0
  HasEvaluableStmt v s.Empty = Unit {0}
  HasEvaluableStmt v (s.Block' n h row) = HaveEvaluableStmts v row
  HasEvaluableStmt v (s.If' a h (more_of-Stmt x end_of-Stmt)) = HasEvaluable v a × HasEvaluableStmt v x
  HasEvaluableStmt v (s.IfElse' a h (more_of-Stmt x end_of-Stmt) q (more_of-Stmt y end_of-Stmt)) =
      HasEvaluable v a × HasEvaluableStmt v x × HasEvaluableStmt v y
  HasEvaluableStmt v (s.Case' kind a h row) = HasEvaluable v a × HaveEvaluableItems v row
  HasEvaluableStmt v (s.Blocking left right) = HasEvaluableLeft v left × HasEvaluable v right
  HasEvaluableStmt v (s.Nonblocking left right) = HasEvaluableLeft v left × HasEvaluable v right × (lefts_length v (parts_of left) ≤ 64)

  pub HaveEvaluableStmts : {m : _} → List Entry → Row_of-Stmt m → Type 0
  HaveEvaluableStmts v end_of-Stmt = Unit {0}
  HaveEvaluableStmts v (more_of-Stmt a rest) = HasEvaluableStmt v a × HaveEvaluableStmts v rest

  pub HaveEvaluableItems : {m : _} → List Entry → Row_of-CaseItem m → Type 0
  HaveEvaluableItems v end_of-CaseItem = Unit {0}
  HaveEvaluableItems v (more_of-CaseItem labels body rest) = HasEvaluableLabels v labels × HasEvaluableStmt v body × HaveEvaluableItems v rest

abbrev pub EachEvaluableStmt : List Entry → List Stmt → Type 0
EachEvaluableStmt v [] = Unit {0}
EachEvaluableStmt v (a ∷ rest) = HasEvaluableStmt v a × EachEvaluableStmt v rest

abbrev pub HasEvaluableCase : List Entry → CaseItem → Type 0
HasEvaluableCase v item = HasEvaluableLabels v item.labels × HasEvaluableStmt v item.body

abbrev pub EachEvaluableCase : List Entry → List CaseItem → Type 0
EachEvaluableCase v [] = Unit {0}
EachEvaluableCase v (a ∷ rest) = HasEvaluableCase v a × EachEvaluableCase v rest

-- ---- modules

abbrev pub IsReadyAssign : List Entry → Assign → Type 0
IsReadyAssign v a = HasEvaluableLeft v a.left × HasEvaluable v a.right

abbrev pub AreReadyAssigns : List Entry → List Assign → Type 0
AreReadyAssigns v xs = (a : Assign) → Among xs a → IsReadyAssign v a

abbrev pub IsReadyBlock : List Entry → Always → Type 0
IsReadyBlock v k = HasEvaluableStmt v k.body

abbrev pub AreReadyBlocks : List Entry → List Always → Type 0
AreReadyBlocks v xs = (k : Always) → Among xs k → IsReadyBlock v k

-- lengths are from 1 to 64, and the numbers that have to be known have values
pub record IsReady (f : Flat) : Type 0 where
  pub wide : (g : Signal) → Among f.signals g → IsLength g.width
  pub assigns : AreReadyAssigns (at_rest (flat_place f)) f.assigns
  pub blocks : AreReadyBlocks (at_rest (flat_place f)) f.blocks
