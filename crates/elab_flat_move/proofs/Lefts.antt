-- Each form of a left side, as the code reads it, moves it and makes it.
use Rattle.std.proofs.Common.{◌≡◌, List, ◌∷◌, ◌++◌, refl, sym, ap, ◌∙◌, map}
use Rattle.vlog_tree.specs.declared.expr.Expr.{Expr}
use Rattle.vlog_tree.specs.declared.expr.Span.{Span}
use Rattle.vlog_tree.specs.declared.stmt.Lval.{Lval, Row_of-Lval, end_of-Lval, more_of-Lval, roll-Lval, roll-out-Lval, items-the_row-Lval, items_shown-the_row-Lval-0, items_hidden-the_row-Lval-0}
use Rattle.vlog_tree.specs.declared.stmt.Lval.TheVariants as l
use Rattle.vlog_tree.specs.declared.stmt.Lval.TheBlock.{shape-the_row-Lval-0, hidden-the_row-Lval-0, shown-the_row-Lval-0}
use Rattle.vlog_tree.specs.declared.valuation.Entry.{Entry}
use Rattle.vlog_tree_runs.specs.Places.{Name}
use Rattle.elab_flat_laws.specs.Moved.{moved, moved_left, moved_lefts}

-- a concatenation by its row is the one by its list
concat_is : (q : _) (row : _) → l.Concat' q row ≡ l.Concat (items-the_row-Lval _ row)
concat_is q row =
    (sym (roll-out-Lval (l.Concat' q row)) ∙ (ap roll-Lval (l.outs-Concat' q row) ∙ l.rolls-Concat (shown-the_row-Lval-0 q row)))
    ∙ ap l.Concat (items_shown-the_row-Lval-0 q row)

module _ (pre : Name) (ps : List Entry) where
  row_items : {m : _} (row : Row_of-Lval m) → items-the_row-Lval m (moved_lefts pre ps row) ≡ map (moved_left pre ps) (items-the_row-Lval m row)
  row_items end_of-Lval = refl
  row_items (more_of-Lval a rest) = ap (λ xs. moved_left pre ps a ∷ xs) (row_items rest)

  list_items : (xs : List Lval) → items-the_row-Lval _ (moved_lefts pre ps (hidden-the_row-Lval-0 xs)) ≡ map (moved_left pre ps) xs
  list_items xs = row_items (hidden-the_row-Lval-0 xs) ∙ ap (map (moved_left pre ps)) (items_hidden-the_row-Lval-0 xs)

  pub concat_moved : (tree : Lval) (xs ys zs : List Lval) (r : Lval) → tree ≡ l.Concat xs → ys ≡ xs → zs ≡ map (moved_left pre ps) ys → r ≡ l.Concat zs → r ≡ moved_left pre ps tree
  concat_moved tree xs ys zs r is i h m =
      m ∙ (ap l.Concat (h ∙ (ap (map (moved_left pre ps)) i ∙ sym (list_items xs)))
      ∙ (sym (concat_is (shape-the_row-Lval-0 xs) (moved_lefts pre ps (hidden-the_row-Lval-0 xs))) ∙ sym (ap (moved_left pre ps) is)))

  pub name_moved : (tree : Lval) (n m x : Name) → tree ≡ l.Name n → m ≡ n → x ≡ pre ++ m → l.Name x ≡ moved_left pre ps tree
  name_moved tree n m x is i h = ap l.Name (h ∙ ap (λ z. pre ++ z) i) ∙ sym (ap (moved_left pre ps) is)

  pub select_moved : (tree : Lval) (n m x : Name) (a y : Expr) → tree ≡ l.Select n a → m ≡ n → x ≡ pre ++ m → y ≡ moved pre ps a → l.Select x y ≡ moved_left pre ps tree
  select_moved tree n m x a y is i h k = (λ z. l.Select ((h ∙ ap (λ w. pre ++ w) i) z) (k z)) ∙ sym (ap (moved_left pre ps) is)

  pub part_moved : (tree : Lval) (n m x : Name) (span : Span) (a b y w : Expr) → tree ≡ l.Part n span a b → m ≡ n → x ≡ pre ++ m → y ≡ moved pre ps a → w ≡ moved pre ps b
      → l.Part x span y w ≡ moved_left pre ps tree
  part_moved tree n m x span a b y w is i h k j = (λ z. l.Part ((h ∙ ap (λ v. pre ++ v) i) z) span (k z) (j z)) ∙ sym (ap (moved_left pre ps) is)
