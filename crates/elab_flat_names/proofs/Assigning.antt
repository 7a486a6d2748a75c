-- Which forms of expressions can be assigned, as the code reads them.
use Rattle.std.proofs.Common.{◌≡◌, ℕ, ◌+◌, ◌<◌, ◌&&◌, Bool, true, false, List, length, drop, get_or, add-one, refl, sym, ap, ◌∙◌}
use Rattle.std.specs.List.{list_all}
use Rattle.vlog_tree.specs.declared.expr.Binary.{Binary}
use Rattle.vlog_tree.specs.declared.expr.Cast.{Cast}
use Rattle.vlog_tree.specs.declared.expr.Constant.{Constant}
use Rattle.vlog_tree.specs.declared.expr.Expr.{Expr, Row_of-Expr, end_of-Expr, more_of-Expr, items-the_row-Expr, items_hidden-the_row-Expr-1}
use Rattle.vlog_tree.specs.declared.expr.Expr.TheVariants as e
use Rattle.vlog_tree.specs.declared.expr.Expr.TheBlock.{shape-the_row-Expr-0, hidden-the_row-Expr-0, shape-the_row-Expr-1, hidden-the_row-Expr-1}
use Rattle.vlog_tree.specs.declared.expr.Name.{Name as Read}
use Rattle.vlog_tree.specs.declared.expr.Span.{Span}
use Rattle.vlog_tree.specs.declared.expr.Unary.{Unary}
use Rattle.vlog_tree_runs.specs.Places.{Name, Place}
use Rattle.vlog_tree_runs.specs.Contents.{is_among}
use Rattle.elab_flat_laws.specs.Uses.{has_signal}
use Rattle.elab_flat_faults.specs.Declaring.{IsAssignable, AreAssignable}
use Rattle.elab_flat_scopes.proofs.Finding.{cut}
use Rattle.elab_flat_names.specs.Assignable.{is_assignable, are_assignable}
use denote.Hole.Carrier

rows : (ns : List Name) (m : _) (row : Row_of-Expr m) → are_assignable ns row ≡ list_all (is_assignable ns) (items-the_row-Expr m row)
rows ns m end_of-Expr = refl
rows ns m (more_of-Expr a rest) = ap (λ b. is_assignable ns a && b) (rows ns _ rest)

module _ (ns : List Name) where
  pub concat_can : (xs ys : List Expr) (tree : Expr) (r : Bool) → tree ≡ e.Concat xs → ys ≡ xs → r ≡ list_all (is_assignable ns) ys → r ≡ is_assignable ns tree
  concat_can xs ys tree r is same g =
      g ∙ (ap (list_all (is_assignable ns)) (same ∙ sym (items_hidden-the_row-Expr-1 xs)) ∙ (sym (rows ns _ (hidden-the_row-Expr-1 xs)) ∙ sym (ap (is_assignable ns) is)))

  pub select_can : (n : Read) (a tree : Expr) (r : Bool) (x : Name) → tree ≡ e.Select n a → x ≡ n.text → r ≡ is_among ns x → r ≡ is_assignable ns tree
  unfolding shape-the_row-Expr-0 hidden-the_row-Expr-0 denote.Hole.Carrier.hidden
  select_can n a tree r x is same g = g ∙ (ap (is_among ns) same ∙ sym (ap (is_assignable ns) is))

  pub part_can : (n : Read) (s : Span) (a b tree : Expr) (r : Bool) (x : Name) → tree ≡ e.Part n s a b → x ≡ n.text → r ≡ is_among ns x → r ≡ is_assignable ns tree
  unfolding shape-the_row-Expr-0 hidden-the_row-Expr-0 denote.Hole.Carrier.hidden
  part_can n s a b tree r x is same g = g ∙ (ap (is_among ns) same ∙ sym (ap (is_assignable ns) is))

  pub constant_select_cannot : (k : Constant) (a tree : Expr) → tree ≡ e.ConstantSelect k a → false ≡ is_assignable ns tree
  unfolding shape-the_row-Expr-0 hidden-the_row-Expr-0 denote.Hole.Carrier.hidden
  constant_select_cannot k a tree is = sym (ap (is_assignable ns) is)

  pub constant_part_cannot : (k : Constant) (s : Span) (a b tree : Expr) → tree ≡ e.ConstantPart k s a b → false ≡ is_assignable ns tree
  unfolding shape-the_row-Expr-0 hidden-the_row-Expr-0 denote.Hole.Carrier.hidden
  constant_part_cannot k s a b tree is = sym (ap (is_assignable ns) is)

  pub cast_cannot : (c : Cast) (a tree : Expr) → tree ≡ e.Cast c a → false ≡ is_assignable ns tree
  unfolding shape-the_row-Expr-0 hidden-the_row-Expr-0 denote.Hole.Carrier.hidden
  cast_cannot c a tree is = sym (ap (is_assignable ns) is)

  pub paren_cannot : (a tree : Expr) → tree ≡ e.Paren a → false ≡ is_assignable ns tree
  unfolding shape-the_row-Expr-0 hidden-the_row-Expr-0 denote.Hole.Carrier.hidden
  paren_cannot a tree is = sym (ap (is_assignable ns) is)

  pub repeat_cannot : (a : Expr) (xs : List Expr) (tree : Expr) → tree ≡ e.Repeat a xs → false ≡ is_assignable ns tree
  unfolding shape-the_row-Expr-0 hidden-the_row-Expr-0 shape-the_row-Expr-1 hidden-the_row-Expr-1 denote.Hole.Carrier.hidden
  repeat_cannot a xs tree is = sym (ap (is_assignable ns) is)

  pub unary_cannot : (op : Unary) (a tree : Expr) → tree ≡ e.Unary op a → false ≡ is_assignable ns tree
  unfolding shape-the_row-Expr-0 hidden-the_row-Expr-0 denote.Hole.Carrier.hidden
  unary_cannot op a tree is = sym (ap (is_assignable ns) is)

  pub binary_cannot : (op : Binary) (a b tree : Expr) → tree ≡ e.Binary op a b → false ≡ is_assignable ns tree
  unfolding shape-the_row-Expr-0 hidden-the_row-Expr-0 denote.Hole.Carrier.hidden
  binary_cannot op a b tree is = sym (ap (is_assignable ns) is)

  pub choice_cannot : (c a b tree : Expr) → tree ≡ e.Choice c a b → false ≡ is_assignable ns tree
  unfolding shape-the_row-Expr-0 hidden-the_row-Expr-0 denote.Hole.Carrier.hidden
  choice_cannot c a b tree is = sym (ap (is_assignable ns) is)

-- ---- parts, one after another

module _ (test : Expr → Bool) (xs : List Expr) (i : ℕ) (x : Expr) (lt : i < length xs) (is : x ≡ get_or xs i x) (whole : Bool) (inv : list_all test (drop i xs) ≡ whole) (r : Bool) (g : r ≡ test x) where
  here : (r && list_all test (drop (i + 1) xs)) ≡ whole
  here = ap (λ b. b && list_all test (drop (i + 1) xs)) g ∙ (ap (λ k. test x && list_all test (drop k xs)) (add-one i) ∙ (ap (list_all test) (sym (cut xs i x lt is)) ∙ inv))

  pub stops : r ≡ false → false ≡ whole
  stops f = ap (λ b. b && list_all test (drop (i + 1) xs)) (sym f) ∙ here

  pub goes_on : r ≡ true → list_all test (drop (i + 1) xs) ≡ whole
  goes_on t = ap (λ b. b && list_all test (drop (i + 1) xs)) (sym t) ∙ here

-- ---- what the test says

both_true : (a b : Bool) → (a && b) ≡ true → (a ≡ true) × (b ≡ true)
both_true true b e = (refl, e)
both_true false b e = cc

module _ (p : Place) (ns : List Name) (same : (x : Name) → has_signal p.signals x ≡ is_among ns x) where
  mutual
    pub can : (a : Expr) → is_assignable ns a ≡ true → IsAssignable p a
    can (e.Name x) h = same x.text ∙ h
    can (e.Select' x g row) h = same x.text ∙ h
    can (e.Part' x span g row i row') h = same x.text ∙ h
    can (e.Concat' g row) h = all_can row h
    can (e.Number n) h = cc
    can (e.ConstantSelect' k g row) h = cc
    can (e.ConstantPart' k span g row i row') h = cc
    can (e.Cast' c g row) h = cc
    can (e.Paren' g row) h = cc
    can (e.Repeat' g row i row') h = cc
    can (e.Unary' op g row) h = cc
    can (e.Binary' op g row i row') h = cc
    can (e.Choice' g row i row' j row'') h = cc

    all_can : {m : _} (row : Row_of-Expr m) → are_assignable ns row ≡ true → AreAssignable p row
    all_can end_of-Expr h = tt
    all_can (more_of-Expr a rest) h = let r = both_true (is_assignable ns a) (are_assignable ns rest) h in (can a r.0, all_can rest r.1)

  mutual
    pub of_can : (a : Expr) → IsAssignable p a → is_assignable ns a ≡ true
    of_can (e.Name x) h = sym (same x.text) ∙ h
    of_can (e.Select' x g row) h = sym (same x.text) ∙ h
    of_can (e.Part' x span g row i row') h = sym (same x.text) ∙ h
    of_can (e.Concat' g row) h = of_all_can row h
    of_can (e.Number n) h = absurd h
    of_can (e.ConstantSelect' k g row) h = absurd h
    of_can (e.ConstantPart' k span g row i row') h = absurd h
    of_can (e.Cast' c g row) h = absurd h
    of_can (e.Paren' g row) h = absurd h
    of_can (e.Repeat' g row i row') h = absurd h
    of_can (e.Unary' op g row) h = absurd h
    of_can (e.Binary' op g row i row') h = absurd h
    of_can (e.Choice' g row i row' j row'') h = absurd h

    of_all_can : {m : _} (row : Row_of-Expr m) → AreAssignable p row → are_assignable ns row ≡ true
    of_all_can end_of-Expr h = refl
    of_all_can (more_of-Expr a rest) h = (λ i. of_can a h.0 i && of_all_can rest h.1 i)
