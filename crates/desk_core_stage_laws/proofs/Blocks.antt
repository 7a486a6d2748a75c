-- A moved block may be taken where the block's texts are fit.
use Rattle.std.proofs.Common.{◌≡◌, ℕ, ◌≤◌, max, Bool, ◌&&◌, List, [], ◌∷◌, ◌++◌, map, sym, ap, ◌∙◌, refl, subst, inl, inr, ⊎_elim, arith}
use Rattle.vlog_tree.specs.declared.expr.Expr.{Expr}
use Rattle.vlog_tree.specs.declared.item.Assign.{Assign}
use Rattle.vlog_tree.specs.declared.stmt.Labels.{Labels}
use Rattle.vlog_tree.specs.declared.stmt.Labels.TheVariants as b
use Rattle.vlog_tree.specs.declared.stmt.Lval.{Lval}
use Rattle.vlog_tree.specs.declared.stmt.Stmt.{Stmt, Row_of-Stmt, end_of-Stmt, more_of-Stmt, Row_of-CaseItem, end_of-CaseItem, more_of-CaseItem}
use Rattle.vlog_tree.specs.declared.stmt.Stmt.TheVariants as s
use Rattle.vlog_tree.specs.declared.valuation.Entry.{Entry}
use Rattle.vlog_tree.specs.Value.{width_of, Stands}
use Rattle.vlog_tree_runs.specs.Places.{Name, Among, Place, read, pieces, total}
use Rattle.vlog_tree_runs.specs.Blocks.{widest, all_signed, exprs_in, labels_in, case_width, case_sign, lefts, row_lefts, case_lefts}
use Rattle.elab_flat_laws.specs.Moved.{moved, moved_left, moved_labels, moved_stmt, moved_stmts, moved_items}
use Rattle.elab_flat_laws.specs.Uses.{IsSignal, UsesDeclared, AllUseDeclared, AssignsSignals, IsDeclared, AreDeclared, AreItemsDeclared}
use Rattle.elab_flat_laws.specs.Laws.{MovesInto}
use Rattle.elab_flat_laws.proofs.Lists.{append_left, append_right, map_append, map_among}
use Rattle.elab_flat_laws.proofs.Sides.{expr_moved}
use Rattle.elab_flat_faults.specs.Texts.{Compared, numbers_in, stores_in, row_stores_in, case_stores_in, alone_in, row_alone_in, case_alone_in, compared_in, row_compared_in, case_compared_in, all_labels_in}
use Rattle.elab_flat_faults.specs.Constants.{at_rest, Taken, alone, assigned_to, compared}
use Rattle.elab_step_blocks.specs.Ready.{ArePlaced}
use Rattle.desk_core_stage_laws.specs.Fit.{IsFit, IsFitLeft, AreFit}
use Rattle.desk_core_stage_laws.specs.Sized.{IsSizedStore, IsSizedStmt, AreSizedStmts, AreSizedItems}
use Rattle.desk_core_stage_laws.proofs.Lengths.{formed_length}
use Rattle.desk_core_stage_laws.proofs.Standing.{labels_declared}
use Rattle.desk_core_stage_laws.proofs.Sides.{single, placed, left_ready, ready_store, moved_wide}

-- ---- texts one after another

first : (p : Place) (as' cs : List Assign) (bs ds : List Expr) (es gs : List Compared) (hs is : List Lval) → AreFit p (as' ++ cs) (bs ++ ds) (es ++ gs) (hs ++ is) → AreFit p as' bs es hs
first p as' cs bs ds es gs hs is f = record {
  assigned = λ a n. f.assigned a (append_left as' cs a n);
  single = λ a n. f.single a (append_left bs ds a n);
  matched = λ k t n. f.matched k t (append_left es gs k n);
  left_sides = λ a n. f.left_sides a (append_left hs is a n);
}

second : (p : Place) (as' cs : List Assign) (bs ds : List Expr) (es gs : List Compared) (hs is : List Lval) → AreFit p (as' ++ cs) (bs ++ ds) (es ++ gs) (hs ++ is) → AreFit p cs ds gs is
second p as' cs bs ds es gs hs is f = record {
  assigned = λ a n. f.assigned a (append_right as' cs a n);
  single = λ a n. f.single a (append_right bs ds a n);
  matched = λ k t n. f.matched k t (append_right es gs k n);
  left_sides = λ a n. f.left_sides a (append_right hs is a n);
}

-- without its condition, and without its comparison
under_condition : (p : Place) (x : Expr) (as' : List Assign) (bs : List Expr) (es : List Compared) (hs : List Lval) → AreFit p as' (x ∷ bs) es hs → AreFit p as' bs es hs
under_condition p x as' bs es hs f = record { assigned = f.assigned; single = λ a n. f.single a (inr n); matched = f.matched; left_sides = f.left_sides }

under_case : (p : Place) (k : Compared) (as' : List Assign) (bs : List Expr) (es : List Compared) (hs : List Lval) → AreFit p as' bs (k ∷ es) hs → AreFit p as' bs es hs
under_case p k as' bs es hs f = record { assigned = f.assigned; single = f.single; matched = λ j t n. f.matched j t (inr n); left_sides = f.left_sides }

-- ---- labels

labels_same : {n : _} (row : Row_of-CaseItem n) → all_labels_in row ≡ labels_in row
labels_same end_of-CaseItem = refl
labels_same (more_of-CaseItem labels body rest) = ap (λ xs. exprs_in labels ++ xs) (labels_same rest)

exprs_moved : (pre : Name) (ps : List Entry) (labels : Labels) → exprs_in (moved_labels pre ps labels) ≡ map (moved pre ps) (exprs_in labels)
exprs_moved pre ps (b.Exprs as') = refl
exprs_moved pre ps b.Default = refl

labels_moved : {n : _} (pre : Name) (ps : List Entry) (row : Row_of-CaseItem n) → labels_in (moved_items pre ps row) ≡ map (moved pre ps) (labels_in row)
labels_moved pre ps end_of-CaseItem = refl
labels_moved pre ps (more_of-CaseItem labels body rest) =
    (λ r. exprs_moved pre ps labels r ++ labels_moved pre ps rest r) ∙ sym (map_append (moved pre ps) (exprs_in labels) (labels_in rest))

uses_labels : {n : _} (p : Place) (row : Row_of-CaseItem n) → AreItemsDeclared p row → AllUseDeclared p (labels_in row)
uses_labels p row d = subst (AllUseDeclared p) (labels_same row) (labels_declared p row d)

-- a label is no longer than the longest one
within : (v : List Entry) (xs : List Expr) (x : Expr) → Among xs x → width_of v x ≤ widest v xs
within v [] x h = absurd h
within v (y ∷ xs) x h =
    ⊎_elim (λ (e : y ≡ x). subst (λ z. width_of v z ≤ widest v (y ∷ xs)) e (omega arith))
    (λ k. let n = within v xs x k in omega (arith, n)) h

widest_most : (v : List Entry) (xs : List Expr) → ((x : Expr) → Among xs x → width_of v x ≤ 64) → widest v xs ≤ 64
widest_most v [] h = omega arith
widest_most v (x ∷ xs) h =
    let m = h x (inl refl) in
    let n = widest_most v xs (λ y k. h y (inr k)) in
    omega (arith, m, n)

-- ---- statements

module _ (p q : Place) (m : MovesInto p q) (stands : (x : Name) → IsSignal p x → Stands (at_rest q) (read (p.prefix ++ x))) where
  widest_moved : (xs : List Expr) → AllUseDeclared p xs → widest (at_rest q) (map (moved p.prefix p.params) xs) ≡ widest (at_rest p) xs
  widest_moved [] d = refl
  widest_moved (x ∷ xs) d = λ r. max (expr_moved p q (λ y. 0) x m d.0 r).width (widest_moved xs d.1 r)

  signs_moved : (xs : List Expr) → AllUseDeclared p xs → all_signed (at_rest q) (map (moved p.prefix p.params) xs) ≡ all_signed (at_rest p) xs
  signs_moved [] d = refl
  signs_moved (x ∷ xs) d = λ r. (expr_moved p q (λ y. 0) x m d.0 r).signed && signs_moved xs d.1 r

  each_placed : (xs : List Expr) (n : ℕ) (signed : Bool) → AllUseDeclared p xs → ((x : Expr) → Among xs x → IsFit p (record { value = x; width = n; signed = signed })) →
      ((x : Expr) → Among xs x → width_of (at_rest p) x ≤ n) → n ≤ 64 → ArePlaced (at_rest q) (map (moved p.prefix p.params) xs) n signed
  each_placed [] n signed d f long most = tt
  each_placed (x ∷ xs) n signed d f long most = (
    placed p q m stands (record { value = x; width = n; signed = signed }) d.0 (f x (inl refl)) (long x (inl refl)) most,
    each_placed xs n signed d.1 (λ y k. f y (inr k)) (λ y k. long y (inr k)) most,
  )

  case_placed : (a : Expr) (labels : List Expr) → UsesDeclared p a → AllUseDeclared p labels →
      ((t : Taken) → Among (compared (at_rest p) (record { value = a; labels = labels })) t → IsFit p t) → (labels' : List Expr) → labels' ≡ map (moved p.prefix p.params) labels →
      ArePlaced (at_rest q) (moved p.prefix p.params a ∷ labels') (case_width (at_rest q) (moved p.prefix p.params a) labels') (case_sign (at_rest q) (moved p.prefix p.params a) labels')
  case_placed a labels d e f labels' is =
      let v = at_rest p in
      let n = case_width v a labels in
      let t = case_sign v a labels in
      let as' = map (moved p.prefix p.params) (a ∷ labels) in
      let fit : (x : Expr) → Among (a ∷ labels) x → IsFit p (record { value = x; width = n; signed = t }) =
      λ x k. f (record { value = x; width = n; signed = t }) (map_among (λ (y : Expr). record { value = y; width = n; signed = t }) (a ∷ labels) x k) in
      let long : (x : Expr) → Among (a ∷ labels) x → width_of v x ≤ n = λ x k. within v (a ∷ labels) x k in
      let most : n ≤ 64 = widest_most v (a ∷ labels) (λ x k. (formed_length v x (fit x k).formed).1) in
      let all = each_placed (a ∷ labels) n t (d, e) fit long most in
      let wide : case_width (at_rest q) (moved p.prefix p.params a) (map (moved p.prefix p.params) labels) ≡ n = widest_moved (a ∷ labels) (d, e) in
      let sign : case_sign (at_rest q) (moved p.prefix p.params a) (map (moved p.prefix p.params) labels) ≡ t = signs_moved (a ∷ labels) (d, e) in
      subst (λ xs. ArePlaced (at_rest q) (moved p.prefix p.params a ∷ xs) (case_width (at_rest q) (moved p.prefix p.params a) xs) (case_sign (at_rest q) (moved p.prefix p.params a) xs)) (sym is)
      (subst (λ u. ArePlaced (at_rest q) as' (case_width (at_rest q) (moved p.prefix p.params a) (map (moved p.prefix p.params) labels)) u) (sym sign)
      (subst (λ j. ArePlaced (at_rest q) as' j t) (sym wide) all))

  pub store_ready : (left : Lval) (right : Expr) → AssignsSignals p left → UsesDeclared p right → IsFit p (assigned_to p (record { left = left; right = right })) → IsFitLeft p left →
      ((a : Expr) → Among (numbers_in left) a → IsFit p (alone (at_rest p) a)) → IsSizedStore (at_rest q) (moved_left p.prefix p.params left) (moved p.prefix p.params right)
  store_ready left right d e f g n =
      ready_store p q m stands (moved_left p.prefix p.params left) right (total (pieces p (λ x. 0) left)) (left_ready p q m stands left d g.spans g.formed n)
      (moved_wide p q m stands left d) g.length e f

  mutual
    pub stmt_ready : (body : Stmt) → IsDeclared p body → AreFit p (stores_in body) (alone_in body) (compared_in body) (lefts body) → IsSizedStmt (at_rest q) (moved_stmt p.prefix p.params body)
    stmt_ready s.Empty d f = tt
    stmt_ready (s.Block' n h row) d f = row_ready row d f
    stmt_ready (s.If' a h (more_of-Stmt x end_of-Stmt)) d f = (
      single p q m stands a d.0 (f.single a (inl refl)),
      stmt_ready x d.1 (under_condition p a (stores_in x) (alone_in x) (compared_in x) (lefts x) f),
    )
    stmt_ready (s.IfElse' a h (more_of-Stmt x end_of-Stmt) g (more_of-Stmt y end_of-Stmt)) d f =
        let t = under_condition p a (stores_in x ++ stores_in y) (alone_in x ++ alone_in y) (compared_in x ++ compared_in y) (lefts x ++ lefts y) f in (
          single p q m stands a d.0 (f.single a (inl refl)),
          stmt_ready x d.1 (first p (stores_in x) (stores_in y) (alone_in x) (alone_in y) (compared_in x) (compared_in y) (lefts x) (lefts y) t),
          stmt_ready y d.2 (second p (stores_in x) (stores_in y) (alone_in x) (alone_in y) (compared_in x) (compared_in y) (lefts x) (lefts y) t),
        )
    stmt_ready (s.Case' kind a h row) d f = (
      case_placed a (labels_in row) d.0 (uses_labels p row d.1)
          (λ t k. f.matched (record { value = a; labels = all_labels_in row }) t (inl refl)
          (subst (λ xs. Among (compared (at_rest p) (record { value = a; labels = xs })) t) (sym (labels_same row)) k))
          (labels_in (moved_items p.prefix p.params row)) (labels_moved p.prefix p.params row),
      items_ready row d.1 (under_case p (record { value = a; labels = all_labels_in row }) (case_stores_in row) (case_alone_in row) (case_compared_in row) (case_lefts row) f),
    )
    stmt_ready (s.Blocking left right) d f = store_ready left right d.0 d.1 (f.assigned (record { left = left; right = right }) (inl refl)) (f.left_sides left (inl refl)) f.single
    stmt_ready (s.Nonblocking left right) d f = store_ready left right d.0 d.1 (f.assigned (record { left = left; right = right }) (inl refl)) (f.left_sides left (inl refl)) f.single

    row_ready : {n : _} (row : Row_of-Stmt n) → AreDeclared p row → AreFit p (row_stores_in row) (row_alone_in row) (row_compared_in row) (row_lefts row) →
        AreSizedStmts (at_rest q) (moved_stmts p.prefix p.params row)
    row_ready end_of-Stmt d f = tt
    row_ready (more_of-Stmt a rest) d f = (
      stmt_ready a d.0 (first p (stores_in a) (row_stores_in rest) (alone_in a) (row_alone_in rest) (compared_in a) (row_compared_in rest) (lefts a) (row_lefts rest) f),
      row_ready rest d.1 (second p (stores_in a) (row_stores_in rest) (alone_in a) (row_alone_in rest) (compared_in a) (row_compared_in rest) (lefts a) (row_lefts rest) f),
    )

    items_ready : {n : _} (row : Row_of-CaseItem n) → AreItemsDeclared p row → AreFit p (case_stores_in row) (case_alone_in row) (case_compared_in row) (case_lefts row) →
        AreSizedItems (at_rest q) (moved_items p.prefix p.params row)
    items_ready end_of-CaseItem d f = tt
    items_ready (more_of-CaseItem labels body rest) d f = (
      stmt_ready body d.1 (first p (stores_in body) (case_stores_in rest) (alone_in body) (case_alone_in rest) (compared_in body) (case_compared_in rest) (lefts body) (case_lefts rest) f),
      items_ready rest d.2 (second p (stores_in body) (case_stores_in rest) (alone_in body) (case_alone_in rest) (compared_in body) (case_compared_in rest) (lefts body) (case_lefts rest) f),
    )
