-- Each form of a statement, as the code reads it, moves it and makes it.
use Rattle.std.proofs.Common.{ℕ, ◌≡◌, List, ◌∷◌, Option, refl, sym, ap, ◌∙◌, map}
use Rattle.vlog_tree.specs.declared.expr.Expr.{Expr}
use Rattle.vlog_tree.specs.declared.stmt.CaseItem.{CaseItem}
use Rattle.vlog_tree.specs.declared.stmt.CaseKind.{CaseKind}
use Rattle.vlog_tree.specs.declared.stmt.Lval.{Lval}
use Rattle.vlog_tree.specs.declared.stmt.Stmt.{Stmt, Row_of-Stmt, end_of-Stmt, more_of-Stmt, Row_of-CaseItem, end_of-CaseItem, more_of-CaseItem, roll-Stmt, roll-out-Stmt, items-the_row-Stmt, items_shown-the_row-Stmt-0, items_hidden-the_row-Stmt-0, items-the_row-CaseItem, items_shown-the_row-CaseItem-2, items_hidden-the_row-CaseItem-2}
use Rattle.vlog_tree.specs.declared.stmt.Stmt.TheVariants as s
use Rattle.vlog_tree.specs.declared.stmt.Stmt.TheBlock.{shape-the_row-Stmt-0, hidden-the_row-Stmt-0, shown-the_row-Stmt-0, shape-the_row-Stmt-1, hidden-the_row-Stmt-1, shape-the_row-CaseItem-2, hidden-the_row-CaseItem-2, shown-the_row-CaseItem-2}
use Rattle.vlog_tree.specs.declared.valuation.Entry.{Entry}
use Rattle.vlog_tree_runs.specs.Places.{Name}
use Rattle.elab_flat_laws.specs.Moved.{moved, moved_left, moved_stmt, moved_stmts, moved_items}
use Rattle.elab_flat_move.specs.Cases.{moved_case}
use denote.Hole.Carrier

-- a block by its row is the one by its list
block_is : (n : Option (List ℕ)) (q : _) (row : _) → s.Block' n q row ≡ s.Block n (items-the_row-Stmt _ row)
block_is n q row =
    (sym (roll-out-Stmt (s.Block' n q row)) ∙ (ap roll-Stmt (s.outs-Block' n q row) ∙ s.rolls-Block n (shown-the_row-Stmt-0 q row)))
    ∙ ap (s.Block n) (items_shown-the_row-Stmt-0 q row)

-- the same of a case statement
case_is : (kind : CaseKind) (a : Expr) (q : _) (row : _) → s.Case' kind a q row ≡ s.Case kind a (items-the_row-CaseItem _ row)
case_is kind a q row =
    (sym (roll-out-Stmt (s.Case' kind a q row)) ∙ (ap roll-Stmt (s.outs-Case' kind a q row) ∙ s.rolls-Case kind a (shown-the_row-CaseItem-2 q row)))
    ∙ ap (s.Case kind a) (items_shown-the_row-CaseItem-2 q row)

module _ (pre : Name) (ps : List Entry) where
  row_items : {m : _} (row : Row_of-Stmt m) → items-the_row-Stmt m (moved_stmts pre ps row) ≡ map (moved_stmt pre ps) (items-the_row-Stmt m row)
  row_items end_of-Stmt = refl
  row_items (more_of-Stmt a rest) = ap (λ xs. moved_stmt pre ps a ∷ xs) (row_items rest)

  list_items : (xs : List Stmt) → items-the_row-Stmt _ (moved_stmts pre ps (hidden-the_row-Stmt-0 xs)) ≡ map (moved_stmt pre ps) xs
  list_items xs = row_items (hidden-the_row-Stmt-0 xs) ∙ ap (map (moved_stmt pre ps)) (items_hidden-the_row-Stmt-0 xs)

  row_cases : {m : _} (row : Row_of-CaseItem m) → items-the_row-CaseItem m (moved_items pre ps row) ≡ map (moved_case pre ps) (items-the_row-CaseItem m row)
  row_cases end_of-CaseItem = refl
  row_cases (more_of-CaseItem labels body rest) = ap (λ xs. moved_case pre ps (record { labels = labels; body = body }) ∷ xs) (row_cases rest)

  list_cases : (xs : List CaseItem) → items-the_row-CaseItem _ (moved_items pre ps (hidden-the_row-CaseItem-2 xs)) ≡ map (moved_case pre ps) xs
  list_cases xs = row_cases (hidden-the_row-CaseItem-2 xs) ∙ ap (map (moved_case pre ps)) (items_hidden-the_row-CaseItem-2 xs)

  pub block_moved : (tree : Stmt) (n k : Option (List ℕ)) (xs ys zs : List Stmt) (r : Stmt) → tree ≡ s.Block n xs → k ≡ n → ys ≡ xs → zs ≡ map (moved_stmt pre ps) ys
      → r ≡ s.Block k zs → r ≡ moved_stmt pre ps tree
  block_moved tree n k xs ys zs r is j i h m =
      m ∙ ((λ z. s.Block (j z) ((h ∙ (ap (map (moved_stmt pre ps)) i ∙ sym (list_items xs))) z))
      ∙ (sym (block_is n (shape-the_row-Stmt-0 xs) (moved_stmts pre ps (hidden-the_row-Stmt-0 xs))) ∙ sym (ap (moved_stmt pre ps) is)))

  pub case_moved : (tree : Stmt) (kind : CaseKind) (a x : Expr) (xs ys zs : List CaseItem) (r : Stmt) → tree ≡ s.Case kind a xs → ys ≡ xs → x ≡ moved pre ps a → zs ≡ map (moved_case pre ps) ys
      → r ≡ s.Case kind x zs → r ≡ moved_stmt pre ps tree
  case_moved tree kind a x xs ys zs r is i j h m =
      m ∙ ((λ z. s.Case kind (j z) ((h ∙ (ap (map (moved_case pre ps)) i ∙ sym (list_cases xs))) z))
      ∙ (sym (case_is kind (moved pre ps a) (shape-the_row-CaseItem-2 xs) (moved_items pre ps (hidden-the_row-CaseItem-2 xs))) ∙ sym (ap (moved_stmt pre ps) is)))

  pub if_moved : (tree : Stmt) (a x : Expr) (b c y r : Stmt) → tree ≡ s.If a b → x ≡ moved pre ps a → c ≡ b → y ≡ moved_stmt pre ps c → r ≡ s.If x y → r ≡ moved_stmt pre ps tree
  unfolding shape-the_row-Stmt-1 hidden-the_row-Stmt-1 denote.Hole.Carrier.hidden
  if_moved tree a x b c y r is h i k m = m ∙ ((λ z. s.If (h z) ((k ∙ ap (moved_stmt pre ps) i) z)) ∙ sym (ap (moved_stmt pre ps) is))

  pub if_else_moved : (tree : Stmt) (a x : Expr) (b c y d f w r : Stmt) → tree ≡ s.IfElse a b d → x ≡ moved pre ps a → c ≡ b → y ≡ moved_stmt pre ps c → f ≡ d → w ≡ moved_stmt pre ps f
      → r ≡ s.IfElse x y w → r ≡ moved_stmt pre ps tree
  unfolding shape-the_row-Stmt-1 hidden-the_row-Stmt-1 denote.Hole.Carrier.hidden
  if_else_moved tree a x b c y d f w r is h i k j g m =
      m ∙ ((λ z. s.IfElse (h z) ((k ∙ ap (moved_stmt pre ps) i) z) ((g ∙ ap (moved_stmt pre ps) j) z)) ∙ sym (ap (moved_stmt pre ps) is))

  pub blocking_moved : (tree : Stmt) (left x : Lval) (right y : Expr) (r : Stmt) → tree ≡ s.Blocking left right → x ≡ moved_left pre ps left → y ≡ moved pre ps right → r ≡ s.Blocking x y → r ≡ moved_stmt pre ps tree
  blocking_moved tree left x right y r is h k m = m ∙ ((λ z. s.Blocking (h z) (k z)) ∙ sym (ap (moved_stmt pre ps) is))

  pub nonblocking_moved : (tree : Stmt) (left x : Lval) (right y : Expr) (r : Stmt) → tree ≡ s.Nonblocking left right → x ≡ moved_left pre ps left → y ≡ moved pre ps right → r ≡ s.Nonblocking x y → r ≡ moved_stmt pre ps tree
  nonblocking_moved tree left x right y r is h k m = m ∙ ((λ z. s.Nonblocking (h z) (k z)) ∙ sym (ap (moved_stmt pre ps) is))
