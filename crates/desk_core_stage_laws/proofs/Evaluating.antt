-- The numbers in texts that can be taken where they stand have values.
use Rattle.std.proofs.Common.{ℕ, Bool, List, [], ◌∷◌, ◌++◌, refl, inl, inr}
use Rattle.vlog_tree.specs.declared.expr.Expr.{Expr, Row_of-Expr, end_of-Expr, more_of-Expr}
use Rattle.vlog_tree.specs.declared.expr.Expr.TheVariants as e
use Rattle.vlog_tree.specs.declared.expr.Span.{Span}
use Rattle.vlog_tree.specs.declared.expr.Span.TheVariants as w
use Rattle.vlog_tree.specs.declared.stmt.Labels.{Labels}
use Rattle.vlog_tree.specs.declared.stmt.Labels.TheVariants as b
use Rattle.vlog_tree.specs.declared.stmt.Lval.{Lval, Row_of-Lval, end_of-Lval, more_of-Lval}
use Rattle.vlog_tree.specs.declared.stmt.Lval.TheVariants as l
use Rattle.vlog_tree.specs.declared.stmt.Stmt.{Stmt, Row_of-Stmt, end_of-Stmt, more_of-Stmt, Row_of-CaseItem, end_of-CaseItem, more_of-CaseItem}
use Rattle.vlog_tree.specs.declared.stmt.Stmt.TheVariants as s
use Rattle.vlog_tree.specs.declared.valuation.Entry.{Entry}
use Rattle.vlog_tree.specs.Value.{width_of, sign_of, IsFormed, IsDefined}
use Rattle.vlog_tree_runs.specs.Places.{Among}
use Rattle.vlog_tree_runs.specs.Blocks.{exprs_in, labels_in, case_width, case_sign}
use Rattle.elab_flat_laws.proofs.Lists.{append_left, append_right}
use Rattle.elab_flat_drivers.specs.Claims.{IsPartReady, IsEvaluable as IsOwnEvaluable}
use Rattle.elab_flat_drivers.specs.Parts.{reads_of, row_reads}
use Rattle.mem_laws.proofs.Constants.{constant_names}
use Rattle.mem_faults.specs.Asked.{IsEvaluable, HasEvaluable, HaveEvaluable, EachEvaluable, IsSpanEvaluable, HasEvaluableLeft, HaveEvaluableLefts, HasEvaluableLabels, HasEvaluableStmt, HaveEvaluableStmts, HaveEvaluableItems}
use Rattle.elab_step_blocks.specs.Ready.{IsSingle, IsPlaced, ArePlaced, IsReadyLeft, AreReadyLefts}
use Rattle.elab_step.proofs.Reading.{evaluable, reads_ready}
use Rattle.desk_core_stage_laws.specs.Sized.{IsSizedStmt, AreSizedStmts, AreSizedItems}

-- ---- expressions

abbrev AreReady : List Lval → Type 0
AreReady qs = (q : Lval) → Among qs q → IsPartReady q

first : (ps qs : List Lval) → AreReady (ps ++ qs) → AreReady ps
first ps qs h q m = h q (append_left ps qs q m)

second : (ps qs : List Lval) → AreReady (ps ++ qs) → AreReady qs
second ps qs h q m = h q (append_right ps qs q m)

index_known : (a : Expr) → IsOwnEvaluable a → IsEvaluable a
index_known a h t = h (constant_names a t)

-- where each of its reads has numbers with values
mutual
  reads_known : (v : List Entry) (a : Expr) → AreReady (reads_of a) → HasEvaluable v a
  reads_known v (e.Number n) h = tt
  reads_known v (e.Name x) h = tt
  reads_known v (e.Select' x g (more_of-Expr a end_of-Expr)) h = (λ deep. index_known a (h (l.Select x.text a) (inl refl)), reads_known v a (λ q m. h q (inr m)))
  reads_known v (e.Part' x span g (more_of-Expr a end_of-Expr) i (more_of-Expr d end_of-Expr)) h =
      (reads_known v a (first (reads_of a) (reads_of d) (λ q m. h q (inr m))), reads_known v d (second (reads_of a) (reads_of d) (λ q m. h q (inr m))))
  reads_known v (e.ConstantSelect' k g (more_of-Expr a end_of-Expr)) h = reads_known v a h
  reads_known v (e.ConstantPart' k span g (more_of-Expr a end_of-Expr) i (more_of-Expr d end_of-Expr)) h =
      (reads_known v a (first (reads_of a) (reads_of d) h), reads_known v d (second (reads_of a) (reads_of d) h))
  reads_known v (e.Cast' cast g (more_of-Expr a end_of-Expr)) h = reads_known v a h
  reads_known v (e.Paren' g (more_of-Expr a end_of-Expr)) h = reads_known v a h
  reads_known v (e.Concat' g row) h = rows_known v row h
  reads_known v (e.Repeat' g (more_of-Expr a end_of-Expr) i row) h = (reads_known v a (first (reads_of a) (row_reads row) h), rows_known v row (second (reads_of a) (row_reads row) h))
  reads_known v (e.Unary' op g (more_of-Expr a end_of-Expr)) h = reads_known v a h
  reads_known v (e.Binary' op g (more_of-Expr a end_of-Expr) i (more_of-Expr d end_of-Expr)) h =
      (reads_known v a (first (reads_of a) (reads_of d) h), reads_known v d (second (reads_of a) (reads_of d) h))
  reads_known v (e.Choice' g (more_of-Expr c end_of-Expr) i (more_of-Expr a end_of-Expr) j (more_of-Expr d end_of-Expr)) h =
      let k = second (reads_of c) (reads_of a ++ reads_of d) h in
      (reads_known v c (first (reads_of c) (reads_of a ++ reads_of d) h), reads_known v a (first (reads_of a) (reads_of d) k), reads_known v d (second (reads_of a) (reads_of d) k))

  rows_known : {n : _} (v : List Entry) (row : Row_of-Expr n) → AreReady (row_reads row) → HaveEvaluable v row
  rows_known v end_of-Expr h = tt
  rows_known v (more_of-Expr a rest) h = (reads_known v a (first (reads_of a) (row_reads rest) h), rows_known v rest (second (reads_of a) (row_reads rest) h))

-- at any length and sign
pub expr_known : (v : List Entry) (a : Expr) (n : ℕ) (t : Bool) → IsFormed v a → IsDefined v a n t → HasEvaluable v a
expr_known v a n t f d = reads_known v a (λ q m. reads_ready v a n t q f d m)

pub placed_known : (v : List Entry) (a : Expr) (n : ℕ) (t : Bool) → IsPlaced v a n t → HasEvaluable v a
placed_known v a n t h = expr_known v a n t h.ready.formed h.defined

single_known : (v : List Entry) (a : Expr) → IsSingle v a → HasEvaluable v a
single_known v a h = expr_known v a (width_of v a) (sign_of v a) h.formed h.defined

-- ---- left sides

span_known : (v : List Entry) (span : Span) (a d : Expr) → IsSingle v a → IsSingle v d → IsSpanEvaluable v span a d
span_known v w.Fixed a d h k = ((h.formed, h.defined), (k.formed, k.defined))
span_known v w.Up a d h k = (k.formed, k.defined)
span_known v w.Down a d h k = (k.formed, k.defined)

mutual
  pub left_known : (v : List Entry) (left : Lval) → IsReadyLeft v left → HasEvaluableLeft v left
  left_known v (l.Name x) h = tt
  left_known v (l.Select x a) h = (λ deep. index_known a (evaluable v a h.1.formed h.1.defined), single_known v a h.1)
  left_known v (l.Part x span a d) h = (single_known v a h.1, single_known v d h.2, span_known v span a d h.1 h.2)
  left_known v (l.Concat' g row) h = lefts_known v row h

  lefts_known : {n : _} (v : List Entry) (row : Row_of-Lval n) → AreReadyLefts v row → HaveEvaluableLefts v row
  lefts_known v end_of-Lval h = tt
  lefts_known v (more_of-Lval a rest) h = (left_known v a h.0, lefts_known v rest h.1)

-- ---- statements

each_known : (v : List Entry) (xs : List Expr) (n : ℕ) (t : Bool) → ArePlaced v xs n t → EachEvaluable v xs
each_known v [] n t h = tt
each_known v (a ∷ xs) n t h = (placed_known v a n t h.0, each_known v xs n t h.1)

each_first : (v : List Entry) (xs ys : List Expr) → EachEvaluable v (xs ++ ys) → EachEvaluable v xs
each_first v [] ys h = tt
each_first v (a ∷ xs) ys h = (h.0, each_first v xs ys h.1)

each_second : (v : List Entry) (xs ys : List Expr) → EachEvaluable v (xs ++ ys) → EachEvaluable v ys
each_second v [] ys h = h
each_second v (a ∷ xs) ys h = each_second v xs ys h.1

labels_known : (v : List Entry) (labels : Labels) → EachEvaluable v (exprs_in labels) → HasEvaluableLabels v labels
labels_known v (b.Exprs xs) h = h
labels_known v b.Default h = tt

mutual
  pub stmt_known : (v : List Entry) (body : Stmt) → IsSizedStmt v body → HasEvaluableStmt v body
  stmt_known v s.Empty h = tt
  stmt_known v (s.Block' n g row) h = stmts_known v row h
  stmt_known v (s.If' a g (more_of-Stmt x end_of-Stmt)) h = (single_known v a h.0, stmt_known v x h.1)
  stmt_known v (s.IfElse' a g (more_of-Stmt x end_of-Stmt) i (more_of-Stmt y end_of-Stmt)) h = (single_known v a h.0, stmt_known v x h.1, stmt_known v y h.2)
  stmt_known v (s.Case' kind a g row) h =
      let all = each_known v (a ∷ labels_in row) (case_width v a (labels_in row)) (case_sign v a (labels_in row)) h.0 in (all.0, items_known v row all.1 h.1)
  stmt_known v (s.Blocking left right) h = (left_known v left h.left_side, placed_known v right _ _ h.right_side)
  stmt_known v (s.Nonblocking left right) h = (left_known v left h.left_side, placed_known v right _ _ h.right_side, h.length.1)

  stmts_known : {n : _} (v : List Entry) (row : Row_of-Stmt n) → AreSizedStmts v row → HaveEvaluableStmts v row
  stmts_known v end_of-Stmt h = tt
  stmts_known v (more_of-Stmt a rest) h = (stmt_known v a h.0, stmts_known v rest h.1)

  items_known : {n : _} (v : List Entry) (row : Row_of-CaseItem n) → EachEvaluable v (labels_in row) → AreSizedItems v row → HaveEvaluableItems v row
  items_known v end_of-CaseItem k h = tt
  items_known v (more_of-CaseItem labels body rest) k h = (
    labels_known v labels (each_first v (exprs_in labels) (labels_in rest) k),
    stmt_known v body h.0,
    items_known v rest (each_second v (exprs_in labels) (labels_in rest) k) h.1,
  )
