-- A statement without memories may be taken where the statement may.
use Rattle.std.proofs.Common.{◌≡◌, ℕ, max, ◌&&◌, Bool, true, false, List, [], ◌∷◌, ◌++◌, map, sym, refl, subst}
use Rattle.vlog_tree.specs.declared.expr.Expr.{Expr}
use Rattle.vlog_tree.specs.declared.stmt.Lval.{Lval}
use Rattle.vlog_tree.specs.declared.stmt.Stmt.{Stmt, Row_of-Stmt, end_of-Stmt, more_of-Stmt, Row_of-CaseItem, end_of-CaseItem, more_of-CaseItem}
use Rattle.vlog_tree.specs.declared.stmt.Stmt.TheVariants as t
use Rattle.vlog_tree.specs.declared.valuation.Entry.{Entry}
use Rattle.vlog_tree_runs.specs.Blocks.{widest, all_signed, exprs_in, labels_in, case_width, case_sign}
use Rattle.mem_laws.specs.Spread.{spread, spread_stmt, spread_stmts, spread_items}
use Rattle.mem_laws.specs.Laws.{Spreads, IsIndexed, AreIndexed, IsIndexedLeft, IsStorable, IsSpreadable, AreSpreadable, AreItemsSpreadable}
use Rattle.mem_laws.proofs.Asking.{plain_indexed}
use Rattle.mem_laws.proofs.Reading.{spread_means}
use Rattle.mem_laws.proofs.Statements.{labels_spread}
use Rattle.elab_step_blocks.specs.Ready.{ArePlaced, IsReadyStmt, AreReadyStmts, AreReadyItems}
use Rattle.desk_core_stage_laws.specs.Sized.{IsSizedStmt, AreSizedStmts, AreSizedItems}
use Rattle.desk_core_stage_laws.proofs.Storing.{single_after, placed_after, assign_after, store_after}

indexed_append : (r : List Entry) (xs ys : List Expr) → AreIndexed r xs → AreIndexed r ys → AreIndexed r (xs ++ ys)
indexed_append r [] ys h k = k
indexed_append r (x ∷ xs) ys h k = (h.0, indexed_append r xs ys h.1 k)

labels_indexed : {n : _} (at_once : Bool) (r : List Entry) (row : Row_of-CaseItem n) → AreItemsSpreadable at_once r row → AreIndexed r (labels_in row)
labels_indexed at_once r end_of-CaseItem d = tt
labels_indexed at_once r (more_of-CaseItem labels body rest) d = indexed_append r (exprs_in labels) (labels_in rest) d.0 (labels_indexed at_once r rest d.2)

storable_indexed : (at_once : Bool) (r : List Entry) (left : Lval) → IsStorable at_once r left → IsIndexedLeft r left
storable_indexed true r left h = plain_indexed r left h
storable_indexed false r left h = h.0

module _ (r w : List Entry) (s : Spreads r r w) where
  -- ---- case statements

  widest_after : (xs : List Expr) → AreIndexed r xs → widest w (map (spread r) xs) ≡ widest r xs
  widest_after [] d = refl
  widest_after (x ∷ xs) d = λ q. max (spread_means r r w x s d.0 q).width (widest_after xs d.1 q)

  signs_after : (xs : List Expr) → AreIndexed r xs → all_signed w (map (spread r) xs) ≡ all_signed r xs
  signs_after [] d = refl
  signs_after (x ∷ xs) d = λ q. (spread_means r r w x s d.0 q).signed && signs_after xs d.1 q

  each_after : (xs : List Expr) (n : ℕ) (signed : Bool) → AreIndexed r xs → ArePlaced r xs n signed → ArePlaced w (map (spread r) xs) n signed
  each_after [] n signed d h = tt
  each_after (x ∷ xs) n signed d h = (placed_after r w s x n signed d.0 h.0, each_after xs n signed d.1 h.1)

  case_after : (a : Expr) (labels labels' : List Expr) → labels' ≡ map (spread r) labels → IsIndexed r a → AreIndexed r labels →
      ArePlaced r (a ∷ labels) (case_width r a labels) (case_sign r a labels) → ArePlaced w (spread r a ∷ labels') (case_width w (spread r a) labels') (case_sign w (spread r a) labels')
  case_after a labels labels' is d k h =
      let xs = map (spread r) (a ∷ labels) in
      let wide : case_width w (spread r a) (map (spread r) labels) ≡ case_width r a labels = widest_after (a ∷ labels) (d, k) in
      let sign : case_sign w (spread r a) (map (spread r) labels) ≡ case_sign r a labels = signs_after (a ∷ labels) (d, k) in
      subst (λ ys. ArePlaced w (spread r a ∷ ys) (case_width w (spread r a) ys) (case_sign w (spread r a) ys)) (sym is)
      (subst (λ u. ArePlaced w xs (case_width w (spread r a) (map (spread r) labels)) u) (sym sign)
      (subst (λ n. ArePlaced w xs n (case_sign r a labels)) (sym wide) (each_after (a ∷ labels) (case_width r a labels) (case_sign r a labels) (d, k) h)))

  -- ---- statements

  mutual
    pub stmt_after : (at_once : Bool) (body : Stmt) → IsSpreadable at_once r body → IsSizedStmt r body → IsReadyStmt w (spread_stmt r body)
    stmt_after at_once t.Empty d h = tt
    stmt_after at_once (t.Block' n g row) d h = stmts_after at_once row d h
    stmt_after at_once (t.If' a g (more_of-Stmt x end_of-Stmt)) d h = (single_after r w s a d.0 h.0, stmt_after at_once x d.1 h.1)
    stmt_after at_once (t.IfElse' a g (more_of-Stmt x end_of-Stmt) i (more_of-Stmt y end_of-Stmt)) d h =
        (single_after r w s a d.0 h.0, stmt_after at_once x d.1 h.1, stmt_after at_once y d.2 h.2)
    stmt_after at_once (t.Case' kind a g row) d h = (
      case_after a (labels_in row) (labels_in (spread_items r row)) (labels_spread r row) d.0 (labels_indexed at_once r row d.1) h.0,
      items_after at_once row d.1 h.1,
    )
    stmt_after at_once (t.Blocking left right) d h = assign_after r w s left right d.0 d.1 h
    stmt_after at_once (t.Nonblocking left right) d h = store_after r w s left right (storable_indexed at_once r left d.0) d.1 h

    stmts_after : {n : _} (at_once : Bool) (row : Row_of-Stmt n) → AreSpreadable at_once r row → AreSizedStmts r row → AreReadyStmts w (spread_stmts r row)
    stmts_after at_once end_of-Stmt d h = tt
    stmts_after at_once (more_of-Stmt a rest) d h = (stmt_after at_once a d.0 h.0, stmts_after at_once rest d.1 h.1)

    items_after : {n : _} (at_once : Bool) (row : Row_of-CaseItem n) → AreItemsSpreadable at_once r row → AreSizedItems r row → AreReadyItems w (spread_items r row)
    items_after at_once end_of-CaseItem d h = tt
    items_after at_once (more_of-CaseItem labels body rest) d h = (stmt_after at_once body d.1 h.0, items_after at_once rest d.2 h.1)
