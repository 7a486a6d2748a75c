-- Each form of a left side, as the code reads it and makes it without memories.
use Rattle.std.proofs.Common.{ℕ, zero, suc, ◌<◌, ◌≡◌, false, nat_eq, List, [], ◌∷◌, length, get_or, refl, sym, ap, ◌∙◌, map, subst, arith}
use Rattle.vlog_tree.specs.declared.expr.Expr.{Expr}
use Rattle.vlog_tree.specs.declared.expr.Span.{Span}
use Rattle.vlog_tree.specs.declared.stmt.Lval.{Lval, Row_of-Lval, end_of-Lval, more_of-Lval, roll-Lval, roll-out-Lval, items-the_row-Lval, items_shown-the_row-Lval-0, items_hidden-the_row-Lval-0}
use Rattle.vlog_tree.specs.declared.stmt.Lval.TheVariants as l
use Rattle.vlog_tree.specs.declared.stmt.Lval.TheBlock.{shape-the_row-Lval-0, hidden-the_row-Lval-0, shown-the_row-Lval-0}
use Rattle.vlog_tree.specs.declared.valuation.Entry.{Entry}
use Rattle.vlog_tree.specs.Valuation.{depth_of}
use Rattle.vlog_tree_runs.specs.Places.{Name, read}
use Rattle.mem_laws.specs.Spread.{spread, spread_left, spread_lefts}
use Rattle.mem_faults.specs.Asked.{IsEvaluable, HasEvaluable, IsSpanEvaluable, HasEvaluableLeft, HaveEvaluableLefts, EachEvaluableLeft}

-- a concatenation by its row is the one by its list
concat_is : (q : _) (row : _) → l.Concat' q row ≡ l.Concat (items-the_row-Lval _ row)
concat_is q row =
    (sym (roll-out-Lval (l.Concat' q row)) ∙ (ap roll-Lval (l.outs-Concat' q row) ∙ l.rolls-Concat (shown-the_row-Lval-0 q row)))
    ∙ ap l.Concat (items_shown-the_row-Lval-0 q row)

module _ (v : List Entry) where
  row_items : {m : _} (row : Row_of-Lval m) → items-the_row-Lval m (spread_lefts v row) ≡ map (spread_left v) (items-the_row-Lval m row)
  row_items end_of-Lval = refl
  row_items (more_of-Lval a rest) = ap (λ xs. spread_left v a ∷ xs) (row_items rest)

  list_items : (xs : List Lval) → items-the_row-Lval _ (spread_lefts v (hidden-the_row-Lval-0 xs)) ≡ map (spread_left v) xs
  list_items xs = row_items (hidden-the_row-Lval-0 xs) ∙ ap (map (spread_left v)) (items_hidden-the_row-Lval-0 xs)

  pub concat_spread : (tree : Lval) (xs ys zs : List Lval) (r : Lval) → tree ≡ l.Concat xs → ys ≡ xs → zs ≡ map (spread_left v) ys → r ≡ l.Concat zs → r ≡ spread_left v tree
  concat_spread tree xs ys zs r is i h m =
      m ∙ (ap l.Concat (h ∙ (ap (map (spread_left v)) i ∙ sym (list_items xs)))
      ∙ (sym (concat_is (shape-the_row-Lval-0 xs) (spread_lefts v (hidden-the_row-Lval-0 xs))) ∙ sym (ap (spread_left v) is)))

  pub name_spread : (tree : Lval) (n m x : Name) → tree ≡ l.Name n → m ≡ n → x ≡ m → l.Name x ≡ spread_left v tree
  name_spread tree n m x is i h = ap l.Name (h ∙ i) ∙ sym (ap (spread_left v) is)

  pub select_spread : (tree : Lval) (n m x : Name) (a y : Expr) → tree ≡ l.Select n a → m ≡ n → x ≡ m → y ≡ spread v a → l.Select x y ≡ spread_left v tree
  select_spread tree n m x a y is i h k = (λ z. l.Select ((h ∙ i) z) (k z)) ∙ sym (ap (spread_left v) is)

  pub part_spread : (tree : Lval) (n m x : Name) (span : Span) (a b y w : Expr) → tree ≡ l.Part n span a b → m ≡ n → x ≡ m → y ≡ spread v a → w ≡ spread v b
      → l.Part x span y w ≡ spread_left v tree
  part_spread tree n m x span a b y w is i h k j = (λ z. l.Part ((h ∙ i) z) span (k z) (j z)) ∙ sym (ap (spread_left v) is)

  -- ---- what is asked of the parts

  pub select_asked : (tree : Lval) (n : Name) (a : Expr) → tree ≡ l.Select n a → HasEvaluableLeft v tree → (nat_eq (depth_of v (read n)) 0 ≡ false → IsEvaluable a) × HasEvaluable v a
  select_asked tree n a is h = subst (HasEvaluableLeft v) is h

  pub part_asked : (tree : Lval) (n : Name) (span : Span) (a b : Expr) → tree ≡ l.Part n span a b → HasEvaluableLeft v tree → HasEvaluable v a × HasEvaluable v b × IsSpanEvaluable v span a b
  part_asked tree n span a b is h = subst (HasEvaluableLeft v) is h

  row_asked : {m : _} (row : Row_of-Lval m) → HaveEvaluableLefts v row → EachEvaluableLeft v (items-the_row-Lval m row)
  row_asked end_of-Lval h = tt
  row_asked (more_of-Lval a rest) h = (h.0, row_asked rest h.1)

  pub concat_asked : (tree : Lval) (xs ys : List Lval) → tree ≡ l.Concat xs → ys ≡ xs → HasEvaluableLeft v tree → EachEvaluableLeft v ys
  concat_asked tree xs ys is i h =
      let k : HaveEvaluableLefts v (hidden-the_row-Lval-0 xs) = subst (λ z. HasEvaluableLeft v z) is h in
      subst (EachEvaluableLeft v) (items_hidden-the_row-Lval-0 xs ∙ sym i) (row_asked (hidden-the_row-Lval-0 xs) k)

  pub each_asked : (xs : List Lval) (i : ℕ) (a d : Lval) → EachEvaluableLeft v xs → i < length xs → a ≡ get_or xs i d → HasEvaluableLeft v a
  each_asked [] i a d h lt e = absurd (omega arith)
  each_asked (x ∷ xs) zero a d h lt e = subst (HasEvaluableLeft v) (sym e) h.0
  each_asked (x ∷ xs) (suc i) a d h lt e = each_asked xs i a d h.1 (omega arith) e
