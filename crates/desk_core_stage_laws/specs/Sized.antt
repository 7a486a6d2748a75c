-- A module without instances, in which names may be memories: its texts can be taken where they stand.
use Rattle.std.specs.Prelude.{ℕ, ◌≡◌, ◌≤◌, max, List, ◌∷◌, map}
use Rattle.std.specs.List.{flat_map}
use Rattle.vlog_tree.specs.declared.expr.Expr.{Expr}
use Rattle.vlog_tree.specs.declared.item.Assign.{Assign}
use Rattle.vlog_tree.specs.declared.stmt.Lval.{Lval}
use Rattle.vlog_tree.specs.declared.stmt.Stmt.{Stmt, Row_of-Stmt, end_of-Stmt, more_of-Stmt, Row_of-CaseItem, end_of-CaseItem, more_of-CaseItem}
use Rattle.vlog_tree.specs.declared.stmt.Stmt.TheVariants as s
use Rattle.vlog_tree.specs.declared.valuation.Entry.{Entry}
use Rattle.vlog_tree.specs.Valuation.{IsLength}
use Rattle.vlog_tree.specs.Value.{width_of, sign_of}
use Rattle.vlog_tree_runs.specs.declared.flat.Always.{Always}
use Rattle.vlog_tree_runs.specs.declared.flat.Flat.{Flat}
use Rattle.vlog_tree_runs.specs.declared.flat.Signal.{Signal}
use Rattle.vlog_tree_runs.specs.declared.flat.TopPort.{TopPort}
use Rattle.vlog_tree_runs.specs.Places.{Name, Among}
use Rattle.vlog_tree_runs.specs.Blocks.{labels_in, case_width, case_sign, left_names}
use Rattle.vlog_tree_runs.specs.Cycles.{flat_place}
use Rattle.elab_flat_faults.specs.Constants.{at_rest}
use Rattle.elab_flat_faults.specs.Drivers.{parts_of}
use Rattle.mem_laws.specs.Spread.{lefts_length}
use Rattle.mem_laws.specs.Laws.{HasFixedLefts}
use Rattle.mem_laws.specs.Stands.{IsDeclaredTwice}
use Rattle.mem_laws.specs.Uses.{lefts_of}
use Rattle.elab_step_blocks.specs.Ready.{IsPlaced, IsSingle, IsReadyLeft, ArePlaced}
use Rattle.elab_step_nets.specs.Solving.{AreDistinct}

-- how many bits a left side has, a word of a memory counting whole
abbrev pub left_length : List Entry → Lval → ℕ
left_length v left = lefts_length v (parts_of left)

-- an assignment: its left side has from 1 to 64 bits, and its right side may be taken at the longer of both lengths
pub record IsSizedStore (v : List Entry) (left : Lval) (right : Expr) : Type 0 where
  pub left_side : IsReadyLeft v left
  pub length : IsLength (left_length v left)
  pub right_side : IsPlaced v right (max (width_of v right) (left_length v left)) (sign_of v right)

-- a statement: so are its assignments, and its conditions and what its case statements compare may be taken
abbrev mutual
  pub IsSizedStmt : List Entry → Stmt → Type 0
  IsSizedStmt v s.Empty = Unit {0}
  IsSizedStmt v (s.Block' n h row) = AreSizedStmts v row
  IsSizedStmt v (s.If' a h (more_of-Stmt body end_of-Stmt)) = IsSingle v a × IsSizedStmt v body
  IsSizedStmt v (s.IfElse' a h (more_of-Stmt body end_of-Stmt) g (more_of-Stmt other end_of-Stmt)) = IsSingle v a × IsSizedStmt v body × IsSizedStmt v other
  IsSizedStmt v (s.Case' kind a h row) =
      ArePlaced v (a ∷ labels_in row) (case_width v a (labels_in row)) (case_sign v a (labels_in row)) × AreSizedItems v row
  IsSizedStmt v (s.Blocking left right) = IsSizedStore v left right
  IsSizedStmt v (s.Nonblocking left right) = IsSizedStore v left right

  pub AreSizedStmts : {m : _} → List Entry → Row_of-Stmt m → Type 0
  AreSizedStmts v end_of-Stmt = Unit {0}
  AreSizedStmts v (more_of-Stmt a rest) = IsSizedStmt v a × AreSizedStmts v rest

  pub AreSizedItems : {m : _} → List Entry → Row_of-CaseItem m → Type 0
  AreSizedItems v end_of-CaseItem = Unit {0}
  AreSizedItems v (more_of-CaseItem labels body rest) = IsSizedStmt v body × AreSizedItems v rest

-- no word of a memory has the name of a signal, or of another word
abbrev pub HasOwnWords : Flat → Type 0
HasOwnWords f = (x : Name) → IsDeclaredTwice f x → ⊥

-- a left side, and a right side at some length
abbrev pub IsSizedLeft : List Entry → Lval → Type 0
IsSizedLeft v left = IsReadyLeft v left × IsLength (left_length v left)

abbrev pub IsPlacedSomewhere : List Entry → Expr → Type 0
IsPlacedSomewhere v a = (n : ℕ) × IsPlaced v a n (sign_of v a)

-- each name is declared once, memories have at most 64 words, and ports are no memories; every text can be taken where it stands, a continuous
-- assignment at its own length where words have names of their own; and the left sides of continuous assignments are constant
pub record HasSizedTexts (f : Flat) : Type 0 where
  pub distinct : AreDistinct (map (λ (g : Signal). g.name) f.signals)
  pub wide : (g : Signal) → Among f.signals g → IsLength g.width
  pub shallow : (g : Signal) → Among f.signals g → g.depth ≤ 64
  pub declared : (x : Name) → Among (flat_map left_names (lefts_of f)) x → Among (map (λ (g : Signal). g.name) f.signals) x
  pub lefts : (a : Assign) → Among f.assigns a → IsSizedLeft (at_rest (flat_place f)) a.left
  pub rights : (a : Assign) → Among f.assigns a → IsPlacedSomewhere (at_rest (flat_place f)) a.right
  pub assigns : HasOwnWords f → (a : Assign) → Among f.assigns a → IsSizedStore (at_rest (flat_place f)) a.left a.right
  pub constant : HasFixedLefts f
  pub blocks : (k : Always) → Among f.blocks k → IsSizedStmt (at_rest (flat_place f)) k.body
  pub ports : (p : TopPort) → Among f.ports p → (g : Signal) × Among f.signals g × (g.name ≡ p.name) × (g.depth ≡ 0)
  pub once : AreDistinct (map (λ (p : TopPort). p.name) f.ports)
