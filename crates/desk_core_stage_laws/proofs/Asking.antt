-- A module whose texts can be taken where they stand has what is asked of one that is freed of its memories.
use Rattle.std.proofs.Common.{◌≡◌, List, subst, map, ⊎_elim}
use Rattle.std.specs.List.{flat_map}
use Rattle.vlog_tree.specs.declared.expr.Expr.{Expr}
use Rattle.vlog_tree.specs.declared.expr.Span.{Span}
use Rattle.vlog_tree.specs.declared.expr.Span.TheVariants as w
use Rattle.vlog_tree.specs.declared.item.Assign.{Assign}
use Rattle.vlog_tree.specs.declared.stmt.Lval.{Lval, Row_of-Lval, end_of-Lval, more_of-Lval}
use Rattle.vlog_tree.specs.declared.stmt.Lval.TheVariants as l
use Rattle.vlog_tree.specs.declared.stmt.Stmt.{Stmt, Row_of-Stmt, end_of-Stmt, more_of-Stmt, Row_of-CaseItem, end_of-CaseItem, more_of-CaseItem}
use Rattle.vlog_tree.specs.declared.stmt.Stmt.TheVariants as s
use Rattle.vlog_tree.specs.declared.valuation.Entry.{Entry}
use Rattle.vlog_tree.specs.Value.{IsPartConstant}
use Rattle.vlog_tree_runs.specs.declared.flat.Always.{Always}
use Rattle.vlog_tree_runs.specs.declared.flat.Flat.{Flat}
use Rattle.vlog_tree_runs.specs.Places.{Among}
use Rattle.vlog_tree_runs.specs.Blocks.{lefts, row_lefts, case_lefts}
use Rattle.vlog_tree_runs.specs.Cycles.{flat_place}
use Rattle.elab_flat_laws.proofs.Lists.{among_append, among_flat, among_map}
use Rattle.elab_flat_faults.specs.Constants.{at_rest, IsSpanConstant, HasConstantSpans, AllHaveConstantSpans}
use Rattle.mem_laws.specs.Laws.{CanSpread}
use Rattle.mem_laws.specs.Uses.{lefts_of}
use Rattle.mem_laws.proofs.Constants.{nothing}
use Rattle.mem_faults.specs.Asked.{IsReady}
use Rattle.elab_step_blocks.specs.Ready.{IsReadyLeft, AreReadyLefts}
use Rattle.desk_core_stage_laws.specs.Sized.{IsSizedStmt, AreSizedStmts, AreSizedItems, IsSizedLeft, HasSizedTexts}
use Rattle.desk_core_stage_laws.proofs.Signals.{signal_name, distinct_once}
use Rattle.desk_core_stage_laws.proofs.Evaluating.{placed_known, left_known, stmt_known}

-- ---- left sides

span_constant : (span : Span) (a d : Expr) → IsPartConstant nothing span a d → IsSpanConstant nothing span a d
span_constant w.Fixed a d h = h
span_constant w.Up a d h = h
span_constant w.Down a d h = h

mutual
  pub left_spans : (v : List Entry) (left : Lval) → IsReadyLeft v left → HasConstantSpans nothing left
  left_spans v (l.Name x) h = tt
  left_spans v (l.Select x a) h = tt
  left_spans v (l.Part x span a d) h = span_constant span a d h.3
  left_spans v (l.Concat' g row) h = lefts_spans v row h

  lefts_spans : {n : _} (v : List Entry) (row : Row_of-Lval n) → AreReadyLefts v row → AllHaveConstantSpans nothing row
  lefts_spans v end_of-Lval h = tt
  lefts_spans v (more_of-Lval a rest) h = (left_spans v a h.0, lefts_spans v rest h.1)

-- those of a statement
mutual
  stmt_left : (v : List Entry) (body : Stmt) → IsSizedStmt v body → (left : Lval) → Among (lefts body) left → IsSizedLeft v left
  stmt_left v s.Empty h left m = absurd m
  stmt_left v (s.Block' n g row) h left m = stmts_left v row h left m
  stmt_left v (s.If' a g (more_of-Stmt x end_of-Stmt)) h left m = stmt_left v x h.1 left m
  stmt_left v (s.IfElse' a g (more_of-Stmt x end_of-Stmt) i (more_of-Stmt y end_of-Stmt)) h left m =
      ⊎_elim (λ k. stmt_left v x h.1 left k) (λ k. stmt_left v y h.2 left k) (among_append (lefts x) (lefts y) left m)
  stmt_left v (s.Case' kind a g row) h left m = items_left v row h.1 left m
  stmt_left v (s.Blocking x y) h left m = ⊎_elim (λ (i : x ≡ left). subst (λ z. IsSizedLeft v z) i (h.left_side, h.length)) (λ k. absurd k) m
  stmt_left v (s.Nonblocking x y) h left m = ⊎_elim (λ (i : x ≡ left). subst (λ z. IsSizedLeft v z) i (h.left_side, h.length)) (λ k. absurd k) m

  stmts_left : {n : _} (v : List Entry) (row : Row_of-Stmt n) → AreSizedStmts v row → (left : Lval) → Among (row_lefts row) left → IsSizedLeft v left
  stmts_left v end_of-Stmt h left m = absurd m
  stmts_left v (more_of-Stmt a rest) h left m = ⊎_elim (λ k. stmt_left v a h.0 left k) (λ k. stmts_left v rest h.1 left k) (among_append (lefts a) (row_lefts rest) left m)

  items_left : {n : _} (v : List Entry) (row : Row_of-CaseItem n) → AreSizedItems v row → (left : Lval) → Among (case_lefts row) left → IsSizedLeft v left
  items_left v end_of-CaseItem h left m = absurd m
  items_left v (more_of-CaseItem labels body rest) h left m =
      ⊎_elim (λ k. stmt_left v body h.0 left k) (λ k. items_left v rest h.1 left k) (among_append (lefts body) (case_lefts rest) left m)

-- ---- the module

each_left : (f : Flat) → HasSizedTexts f → (left : Lval) → Among (lefts_of f) left → IsSizedLeft (at_rest (flat_place f)) left
each_left f h left m =
    ⊎_elim
    (λ n. let a = among_map (λ (z : Assign). z.left) f.assigns left n in subst (λ z. IsSizedLeft (at_rest (flat_place f)) z) a.2 (h.lefts a.0 a.1))
    (λ n. let k = among_flat (λ (z : Always). lefts z.body) f.blocks left n in stmt_left (at_rest (flat_place f)) k.0.body (h.blocks k.0 k.1) left k.2)
    (among_append (map (λ (z : Assign). z.left) f.assigns) (flat_map (λ (z : Always). lefts z.body) f.blocks) left m)

pub can_spread : (f : Flat) → HasSizedTexts f → CanSpread f
can_spread f h = record {
  distinct = distinct_once (map signal_name f.signals) h.distinct;
  wide = h.wide;
  shallow = h.shallow;
  declared = h.declared;
  spans = λ left m. left_spans (at_rest (flat_place f)) left (each_left f h left m).0;
  lengths = λ left m. (each_left f h left m).1.1;
  ports = h.ports;
}

pub is_ready : (f : Flat) → HasSizedTexts f → IsReady f
is_ready f h = record {
  wide = h.wide;
  assigns = λ a m. (left_known (at_rest (flat_place f)) a.left (h.lefts a m).0, placed_known (at_rest (flat_place f)) a.right _ _ (h.rights a m).1);
  blocks = λ k m. stmt_known (at_rest (flat_place f)) k.body (h.blocks k m);
}
