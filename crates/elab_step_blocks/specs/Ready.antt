-- What is asked of a block that becomes nodes.
use Rattle.std.specs.Prelude.{ℕ, ◌+◌, max, Bool, IsTrue, List, [], ◌∷◌}
use Rattle.vlog_tree.specs.declared.expr.Expr.{Expr}
use Rattle.vlog_tree.specs.declared.stmt.CaseItem.{CaseItem}
use Rattle.vlog_tree.specs.declared.stmt.Lval.{Lval, Row_of-Lval, end_of-Lval, more_of-Lval}
use Rattle.vlog_tree.specs.declared.stmt.Lval.TheVariants as l
use Rattle.vlog_tree.specs.declared.stmt.Stmt.{Stmt, Row_of-Stmt, end_of-Stmt, more_of-Stmt, Row_of-CaseItem, end_of-CaseItem, more_of-CaseItem}
use Rattle.vlog_tree.specs.declared.stmt.Stmt.TheVariants as s
use Rattle.vlog_tree.specs.declared.valuation.Entry.{Entry}
use Rattle.vlog_tree.specs.Valuation.{IsLength, named}
use Rattle.vlog_tree.specs.Value.{IsFormed, IsDefined, HasConstantParts, own_defined, Stands, IsPartConstant, operand_of, own_integer, part_width, width_of, sign_of}
use Rattle.vlog_tree_runs.specs.Places.{read}
use Rattle.vlog_tree_runs.specs.Blocks.{labels_in, case_width, case_sign}
use Rattle.vlog_tree_values.specs.Shapes.{IsReady}
use Rattle.elab_step_expr.specs.Terms.{nothing}

-- an expression may be taken at this length and sign
pub record IsPlaced (v : List Entry) (a : Expr) (L : ℕ) (signed : Bool) : Type 0 where
  pub ready : IsReady v a L
  pub constant : HasConstantParts nothing a
  pub defined : IsDefined v a L signed

-- it may be taken by itself
pub record IsSingle (v : List Entry) (a : Expr) : Type 0 where
  pub formed : IsFormed v a
  pub constant : HasConstantParts nothing a
  pub defined : IsTrue (own_defined (operand_of v a))

-- how many bits a left side has
abbrev mutual
  pub left_width : List Entry → Lval → ℕ
  left_width v (l.Name x) = (named v (read x)).width
  left_width v (l.Select x a) = 1
  left_width v (l.Part x span a b) = part_width span (own_integer (operand_of v a)) (own_integer (operand_of v b))
  left_width v (l.Concat' h row) = row_width v row

  pub row_width : {m : _} → List Entry → Row_of-Lval m → ℕ
  row_width v end_of-Lval = 0
  row_width v (more_of-Lval a rest) = left_width v a + row_width v rest

-- its names are declared, its numbers may be taken by themselves, those of `[a:b]` and the length of `+:` and `-:` are constant, and
-- each part has from 1 to 64 bits
abbrev mutual
  pub IsReadyLeft : List Entry → Lval → Type 0
  IsReadyLeft v (l.Name x) = Stands v (read x)
  IsReadyLeft v (l.Select x a) = Stands v (read x) × IsSingle v a
  IsReadyLeft v (l.Part x span a b) =
      Stands v (read x) × IsSingle v a × IsSingle v b × IsPartConstant nothing span a b
      × IsLength (part_width span (own_integer (operand_of v a)) (own_integer (operand_of v b)))
  IsReadyLeft v (l.Concat' h row) = AreReadyLefts v row

  pub AreReadyLefts : {m : _} → List Entry → Row_of-Lval m → Type 0
  AreReadyLefts v end_of-Lval = Unit {0}
  AreReadyLefts v (more_of-Lval a rest) = IsReadyLeft v a × AreReadyLefts v rest

abbrev pub EachReadyLeft : List Entry → List Lval → Type 0
EachReadyLeft v [] = Unit {0}
EachReadyLeft v (a ∷ rest) = IsReadyLeft v a × EachReadyLeft v rest

-- an assignment: its left side has from 1 to 64 bits, and its right side may be taken at the longer of both lengths
pub record IsReadyStore (v : List Entry) (left : Lval) (right : Expr) : Type 0 where
  pub left_side : IsReadyLeft v left
  pub length : IsLength (left_width v left)
  pub right_side : IsPlaced v right (max (width_of v right) (left_width v left)) (sign_of v right)

-- each expression may be taken at this length and sign
abbrev pub ArePlaced : List Entry → List Expr → ℕ → Bool → Type 0
ArePlaced v [] n signed = Unit {0}
ArePlaced v (a ∷ rest) n signed = IsPlaced v a n signed × ArePlaced v rest n signed

-- a statement: so are its assignments, its conditions may be taken by themselves, and what a case statement compares at its length
-- and sign
abbrev mutual
  pub IsReadyStmt : List Entry → Stmt → Type 0
  IsReadyStmt v s.Empty = Unit {0}
  IsReadyStmt v (s.Block' n h row) = AreReadyStmts v row
  IsReadyStmt v (s.If' a h (more_of-Stmt body end_of-Stmt)) = IsSingle v a × IsReadyStmt v body
  IsReadyStmt v (s.IfElse' a h (more_of-Stmt body end_of-Stmt) g (more_of-Stmt other end_of-Stmt)) = IsSingle v a × IsReadyStmt v body × IsReadyStmt v other
  IsReadyStmt v (s.Case' kind a h row) =
      ArePlaced v (a ∷ labels_in row) (case_width v a (labels_in row)) (case_sign v a (labels_in row)) × AreReadyItems v row
  IsReadyStmt v (s.Blocking left right) = IsReadyStore v left right
  IsReadyStmt v (s.Nonblocking left right) = IsReadyStore v left right

  pub AreReadyStmts : {m : _} → List Entry → Row_of-Stmt m → Type 0
  AreReadyStmts v end_of-Stmt = Unit {0}
  AreReadyStmts v (more_of-Stmt a rest) = IsReadyStmt v a × AreReadyStmts v rest

  pub AreReadyItems : {m : _} → List Entry → Row_of-CaseItem m → Type 0
  AreReadyItems v end_of-CaseItem = Unit {0}
  AreReadyItems v (more_of-CaseItem labels body rest) = IsReadyStmt v body × AreReadyItems v rest

abbrev pub EachReadyStmt : List Entry → List Stmt → Type 0
EachReadyStmt v [] = Unit {0}
EachReadyStmt v (a ∷ rest) = IsReadyStmt v a × EachReadyStmt v rest

-- the bodies of items
abbrev pub EachReadyItem : List Entry → List CaseItem → Type 0
EachReadyItem v [] = Unit {0}
EachReadyItem v (i ∷ rest) = IsReadyStmt v i.body × EachReadyItem v rest
