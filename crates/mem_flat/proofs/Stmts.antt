-- Each form of a statement, as the code reads it and makes it without memories.
use Rattle.std.proofs.Common.{ℕ, zero, suc, ◌<◌, ◌≤◌, ◌≡◌, List, [], ◌∷◌, Option, length, get_or, refl, sym, ap, ◌∙◌, map, subst, arith}
use Rattle.vlog_tree.specs.declared.expr.Expr.{Expr}
use Rattle.vlog_tree.specs.declared.stmt.CaseItem.{CaseItem}
use Rattle.vlog_tree.specs.declared.stmt.CaseKind.{CaseKind}
use Rattle.vlog_tree.specs.declared.stmt.Lval.{Lval}
use Rattle.vlog_tree.specs.declared.stmt.Stmt.{Stmt, Row_of-Stmt, end_of-Stmt, more_of-Stmt, Row_of-CaseItem, end_of-CaseItem, more_of-CaseItem, roll-Stmt, roll-out-Stmt, items-the_row-Stmt, items_shown-the_row-Stmt-0, items_hidden-the_row-Stmt-0, items-the_row-CaseItem, items_shown-the_row-CaseItem-2, items_hidden-the_row-CaseItem-2}
use Rattle.vlog_tree.specs.declared.stmt.Stmt.TheVariants as s
use Rattle.vlog_tree.specs.declared.stmt.Stmt.TheBlock.{shape-the_row-Stmt-0, hidden-the_row-Stmt-0, shown-the_row-Stmt-0, shape-the_row-Stmt-1, hidden-the_row-Stmt-1, shape-the_row-CaseItem-2, hidden-the_row-CaseItem-2, shown-the_row-CaseItem-2}
use Rattle.vlog_tree.specs.declared.valuation.Entry.{Entry}
use Rattle.mem_laws.specs.Spread.{spread, spread_left, spread_store, spread_stmt, spread_stmts, spread_items}
use Rattle.mem_faults.specs.Asked.{HasEvaluable, HasEvaluableStmt, HaveEvaluableStmts, HaveEvaluableItems, EachEvaluableStmt, HasEvaluableCase, EachEvaluableCase}
use Rattle.mem_flat.specs.Cases.{spread_case}
use denote.Hole.Carrier

-- a block by its row is the one by its list
block_is : (n : Option (List ℕ)) (q : _) (row : _) → s.Block' n q row ≡ s.Block n (items-the_row-Stmt _ row)
block_is n q row =
    (sym (roll-out-Stmt (s.Block' n q row)) ∙ (ap roll-Stmt (s.outs-Block' n q row) ∙ s.rolls-Block n (shown-the_row-Stmt-0 q row)))
    ∙ ap (s.Block n) (items_shown-the_row-Stmt-0 q row)

-- the same of a case statement
case_is : (kind : CaseKind) (a : Expr) (q : _) (row : _) → s.Case' kind a q row ≡ s.Case kind a (items-the_row-CaseItem _ row)
case_is kind a q row =
    (sym (roll-out-Stmt (s.Case' kind a q row)) ∙ (ap roll-Stmt (s.outs-Case' kind a q row) ∙ s.rolls-Case kind a (shown-the_row-CaseItem-2 q row)))
    ∙ ap (s.Case kind a) (items_shown-the_row-CaseItem-2 q row)

module _ (v : List Entry) where
  row_items : {m : _} (row : Row_of-Stmt m) → items-the_row-Stmt m (spread_stmts v row) ≡ map (spread_stmt v) (items-the_row-Stmt m row)
  row_items end_of-Stmt = refl
  row_items (more_of-Stmt a rest) = ap (λ xs. spread_stmt v a ∷ xs) (row_items rest)

  list_items : (xs : List Stmt) → items-the_row-Stmt _ (spread_stmts v (hidden-the_row-Stmt-0 xs)) ≡ map (spread_stmt v) xs
  list_items xs = row_items (hidden-the_row-Stmt-0 xs) ∙ ap (map (spread_stmt v)) (items_hidden-the_row-Stmt-0 xs)

  row_cases : {m : _} (row : Row_of-CaseItem m) → items-the_row-CaseItem m (spread_items v row) ≡ map (spread_case v) (items-the_row-CaseItem m row)
  row_cases end_of-CaseItem = refl
  row_cases (more_of-CaseItem labels body rest) = ap (λ xs. spread_case v (record { labels = labels; body = body }) ∷ xs) (row_cases rest)

  list_cases : (xs : List CaseItem) → items-the_row-CaseItem _ (spread_items v (hidden-the_row-CaseItem-2 xs)) ≡ map (spread_case v) xs
  list_cases xs = row_cases (hidden-the_row-CaseItem-2 xs) ∙ ap (map (spread_case v)) (items_hidden-the_row-CaseItem-2 xs)

  pub block_spread : (tree : Stmt) (n k : Option (List ℕ)) (xs ys zs : List Stmt) (r : Stmt) → tree ≡ s.Block n xs → k ≡ n → ys ≡ xs → zs ≡ map (spread_stmt v) ys
      → r ≡ s.Block k zs → r ≡ spread_stmt v tree
  block_spread tree n k xs ys zs r is j i h m =
      m ∙ ((λ z. s.Block (j z) ((h ∙ (ap (map (spread_stmt v)) i ∙ sym (list_items xs))) z))
      ∙ (sym (block_is n (shape-the_row-Stmt-0 xs) (spread_stmts v (hidden-the_row-Stmt-0 xs))) ∙ sym (ap (spread_stmt v) is)))

  pub case_spread : (tree : Stmt) (kind : CaseKind) (a x : Expr) (xs ys zs : List CaseItem) (r : Stmt) → tree ≡ s.Case kind a xs → ys ≡ xs → x ≡ spread v a → zs ≡ map (spread_case v) ys
      → r ≡ s.Case kind x zs → r ≡ spread_stmt v tree
  case_spread tree kind a x xs ys zs r is i j h m =
      m ∙ ((λ z. s.Case kind (j z) ((h ∙ (ap (map (spread_case v)) i ∙ sym (list_cases xs))) z))
      ∙ (sym (case_is kind (spread v a) (shape-the_row-CaseItem-2 xs) (spread_items v (hidden-the_row-CaseItem-2 xs))) ∙ sym (ap (spread_stmt v) is)))

  pub if_spread : (tree : Stmt) (a x : Expr) (b c y r : Stmt) → tree ≡ s.If a b → x ≡ spread v a → c ≡ b → y ≡ spread_stmt v c → r ≡ s.If x y → r ≡ spread_stmt v tree
  unfolding shape-the_row-Stmt-1 hidden-the_row-Stmt-1 denote.Hole.Carrier.hidden
  if_spread tree a x b c y r is h i k m = m ∙ ((λ z. s.If (h z) ((k ∙ ap (spread_stmt v) i) z)) ∙ sym (ap (spread_stmt v) is))

  pub if_else_spread : (tree : Stmt) (a x : Expr) (b c y d f w r : Stmt) → tree ≡ s.IfElse a b d → x ≡ spread v a → c ≡ b → y ≡ spread_stmt v c → f ≡ d → w ≡ spread_stmt v f
      → r ≡ s.IfElse x y w → r ≡ spread_stmt v tree
  unfolding shape-the_row-Stmt-1 hidden-the_row-Stmt-1 denote.Hole.Carrier.hidden
  if_else_spread tree a x b c y d f w r is h i k j g m =
      m ∙ ((λ z. s.IfElse (h z) ((k ∙ ap (spread_stmt v) i) z) ((g ∙ ap (spread_stmt v) j) z)) ∙ sym (ap (spread_stmt v) is))

  pub blocking_spread : (tree : Stmt) (left x : Lval) (right y : Expr) (r : Stmt) → tree ≡ s.Blocking left right → x ≡ spread_left v left → y ≡ spread v right → r ≡ s.Blocking x y → r ≡ spread_stmt v tree
  blocking_spread tree left x right y r is h k m = m ∙ ((λ z. s.Blocking (h z) (k z)) ∙ sym (ap (spread_stmt v) is))

  pub nonblocking_spread : (tree : Stmt) (left : Lval) (right : Expr) (r : Stmt) → tree ≡ s.Nonblocking left right → r ≡ spread_store v left (spread v right) → r ≡ spread_stmt v tree
  nonblocking_spread tree left right r is m = m ∙ sym (ap (spread_stmt v) is)

  -- ---- what is asked of the parts

  abbrev Asked : Stmt → Type 0
  Asked a = HasEvaluableStmt v a

  row_asked : {m : _} (row : Row_of-Stmt m) → HaveEvaluableStmts v row → EachEvaluableStmt v (items-the_row-Stmt m row)
  row_asked end_of-Stmt h = tt
  row_asked (more_of-Stmt a rest) h = (h.0, row_asked rest h.1)

  items_asked : {m : _} (row : Row_of-CaseItem m) → HaveEvaluableItems v row → EachEvaluableCase v (items-the_row-CaseItem m row)
  items_asked end_of-CaseItem h = tt
  items_asked (more_of-CaseItem labels body rest) h = ((h.0, h.1), items_asked rest h.2)

  pub block_asked : (tree : Stmt) (n : _) (xs ys : List Stmt) → tree ≡ s.Block n xs → ys ≡ xs → Asked tree → EachEvaluableStmt v ys
  block_asked tree n xs ys is i h =
      let k : HaveEvaluableStmts v (hidden-the_row-Stmt-0 xs) = subst (λ z. Asked z) is h in
      subst (EachEvaluableStmt v) (items_hidden-the_row-Stmt-0 xs ∙ sym i) (row_asked (hidden-the_row-Stmt-0 xs) k)

  pub if_asked : (tree : Stmt) (a : Expr) (b c : Stmt) → tree ≡ s.If a b → c ≡ b → Asked tree → HasEvaluable v a × Asked c
  unfolding shape-the_row-Stmt-1 hidden-the_row-Stmt-1 denote.Hole.Carrier.hidden
  if_asked tree a b c is i h = subst (λ z. HasEvaluable v a × Asked z) (sym i) (subst (λ z. Asked z) is h)

  pub if_else_asked : (tree : Stmt) (a : Expr) (b c d f : Stmt) → tree ≡ s.IfElse a b d → c ≡ b → f ≡ d → Asked tree → HasEvaluable v a × Asked c × Asked f
  unfolding shape-the_row-Stmt-1 hidden-the_row-Stmt-1 denote.Hole.Carrier.hidden
  if_else_asked tree a b c d f is i j h = let k : HasEvaluable v a × Asked b × Asked d = subst (λ z. Asked z) is h in (k.0, subst (λ z. Asked z) (sym i) k.1, subst (λ z. Asked z) (sym j) k.2)

  pub case_asked : (tree : Stmt) (kind : CaseKind) (a : Expr) (xs ys : List CaseItem) → tree ≡ s.Case kind a xs → ys ≡ xs → Asked tree → HasEvaluable v a × EachEvaluableCase v ys
  case_asked tree kind a xs ys is i h =
      let k : HasEvaluable v a × HaveEvaluableItems v (hidden-the_row-CaseItem-2 xs) = subst (λ z. Asked z) is h in
      (k.0, subst (EachEvaluableCase v) (items_hidden-the_row-CaseItem-2 xs ∙ sym i) (items_asked (hidden-the_row-CaseItem-2 xs) k.1))

  pub each_asked : (xs : List Stmt) (i : ℕ) (a d : Stmt) → EachEvaluableStmt v xs → i < length xs → a ≡ get_or xs i d → Asked a
  each_asked [] i a d h lt e = absurd (omega arith)
  each_asked (x ∷ xs) zero a d h lt e = subst (λ z. Asked z) (sym e) h.0
  each_asked (x ∷ xs) (suc i) a d h lt e = each_asked xs i a d h.1 (omega arith) e

  pub each_case_asked : (xs : List CaseItem) (i : ℕ) (a d : CaseItem) → EachEvaluableCase v xs → i < length xs → a ≡ get_or xs i d → HasEvaluableCase v a
  each_case_asked [] i a d h lt e = absurd (omega arith)
  each_case_asked (x ∷ xs) zero a d h lt e = subst (λ z. HasEvaluableCase v z) (sym e) h.0
  each_case_asked (x ∷ xs) (suc i) a d h lt e = each_case_asked xs i a d h.1 (omega arith) e
