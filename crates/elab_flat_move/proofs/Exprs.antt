-- Each form of an expression, as the code reads it, moves it and makes it.
use Rattle.std.proofs.Common.{ℕ, ◌≡◌, ◌≤◌, List, ◌∷◌, ◌++◌, Option, Some, None, refl, sym, ap, ◌∙◌, map, drop, length, drop_of_length-le}
use Rattle.std.proofs.lemmas.List.{append-nil}
use Rattle.vlog_tree.specs.declared.expr.Binary.{Binary}
use Rattle.vlog_tree.specs.declared.expr.Cast.{Cast}
use Rattle.vlog_tree.specs.declared.expr.Constant.{Constant}
use Rattle.vlog_tree.specs.declared.expr.Expr.{Expr, Row_of-Expr, end_of-Expr, more_of-Expr, roll-Expr, roll-out-Expr, items-the_row-Expr, items_shown-the_row-Expr-1, items_hidden-the_row-Expr-1}
use Rattle.vlog_tree.specs.declared.expr.Expr.TheVariants as e
use Rattle.vlog_tree.specs.declared.expr.Expr.TheBlock.{shape-the_row-Expr-0, hidden-the_row-Expr-0, shown-the_row-Expr-0, shape-the_row-Expr-1, hidden-the_row-Expr-1, shown-the_row-Expr-1}
use Rattle.vlog_tree.specs.declared.expr.Name.{Name as Read}
use Rattle.vlog_tree.specs.declared.expr.Span.{Span}
use Rattle.vlog_tree.specs.declared.expr.Unary.{Unary}
use Rattle.vlog_tree.specs.declared.valuation.Entry.{Entry}
use Rattle.vlog_tree.specs.Valuation.{meaning_of}
use Rattle.vlog_tree_runs.specs.Places.{Name}
use Rattle.elab_flat_laws.specs.Moved.{moved, moved_row, under, moved_select, moved_part}
use denote.Hole.Carrier

-- ---- rows

-- a concatenation by its row is the one by its list
concat_is : (q : _) (row : _) → e.Concat' q row ≡ e.Concat (items-the_row-Expr _ row)
concat_is q row =
    (sym (roll-out-Expr (e.Concat' q row)) ∙ (ap roll-Expr (e.outs-Concat' q row) ∙ e.rolls-Concat (shown-the_row-Expr-1 q row)))
    ∙ ap e.Concat (items_shown-the_row-Expr-1 q row)

-- the same of a replication
repeat_is : (a : Expr) (q : _) (row : _) → e.Repeat' tt (more_of-Expr a end_of-Expr) q row ≡ e.Repeat a (items-the_row-Expr _ row)
unfolding shape-the_row-Expr-0 hidden-the_row-Expr-0 denote.Hole.Carrier.hidden shown-the_row-Expr-0 shown-the_row-Expr-1 Carrier.shown
repeat_is a q row =
    (sym (roll-out-Expr (e.Repeat' tt (more_of-Expr a end_of-Expr) q row)) ∙ (ap roll-Expr (e.outs-Repeat' tt (more_of-Expr a end_of-Expr) q row) ∙ e.rolls-Repeat _ (shown-the_row-Expr-1 q row)))
    ∙ ap (e.Repeat a) (items_shown-the_row-Expr-1 q row)

-- a loop that has moved all
pub loop_done : {A : Type 0} (f : A → A) (xs : List A) (i : ℕ) (all : List A) → length xs ≤ i → all ++ map f (drop i xs) ≡ map f xs → all ≡ map f xs
loop_done f xs i all le h = sym (append-nil all) ∙ (ap (λ ys. all ++ map f ys) (sym (drop_of_length-le xs {i = i} le)) ∙ h)

module _ (pre : Name) (ps : List Entry) where
  row_items : {m : _} (row : Row_of-Expr m) → items-the_row-Expr m (moved_row pre ps row) ≡ map (moved pre ps) (items-the_row-Expr m row)
  row_items end_of-Expr = refl
  row_items (more_of-Expr a rest) = ap (λ xs. moved pre ps a ∷ xs) (row_items rest)

  list_items : (xs : List Expr) → items-the_row-Expr _ (moved_row pre ps (hidden-the_row-Expr-1 xs)) ≡ map (moved pre ps) xs
  list_items xs = row_items (hidden-the_row-Expr-1 xs) ∙ ap (map (moved pre ps)) (items_hidden-the_row-Expr-1 xs)

  pub concat_moved : (tree : Expr) (xs ys zs : List Expr) (r : Expr) → tree ≡ e.Concat xs → ys ≡ xs → zs ≡ map (moved pre ps) ys → r ≡ e.Concat zs → r ≡ moved pre ps tree
  concat_moved tree xs ys zs r is i h m =
      m ∙ (ap e.Concat (h ∙ (ap (map (moved pre ps)) i ∙ sym (list_items xs)))
      ∙ (sym (concat_is (shape-the_row-Expr-1 xs) (moved_row pre ps (hidden-the_row-Expr-1 xs))) ∙ sym (ap (moved pre ps) is)))

  pub repeat_moved : (tree a b x : Expr) (xs ys zs : List Expr) (r : Expr) → tree ≡ e.Repeat a xs → b ≡ a → ys ≡ xs → x ≡ moved pre ps b → zs ≡ map (moved pre ps) ys
      → r ≡ e.Repeat x zs → r ≡ moved pre ps tree
  unfolding shape-the_row-Expr-0 hidden-the_row-Expr-0 denote.Hole.Carrier.hidden
  repeat_moved tree a b x xs ys zs r is j i k h m =
      m ∙ ((λ z. e.Repeat ((k ∙ ap (moved pre ps) j) z) ((h ∙ (ap (map (moved pre ps)) i ∙ sym (list_items xs))) z))
      ∙ (sym (repeat_is (moved pre ps a) (shape-the_row-Expr-1 xs) (moved_row pre ps (hidden-the_row-Expr-1 xs))) ∙ sym (ap (moved pre ps) is)))

  -- ---- operands

  pub select_moved : (tree : Expr) (n : Read) (a b x r : Expr) → tree ≡ e.Select n a → b ≡ a → x ≡ moved pre ps b → r ≡ moved_select pre (meaning_of ps n) n x → r ≡ moved pre ps tree
  unfolding shape-the_row-Expr-0 hidden-the_row-Expr-0 denote.Hole.Carrier.hidden
  select_moved tree n a b x r is i h m = m ∙ (ap (moved_select pre (meaning_of ps n) n) (h ∙ ap (moved pre ps) i) ∙ sym (ap (moved pre ps) is))

  pub part_moved : (tree : Expr) (n : Read) (span : Span) (a b c d x y r : Expr) → tree ≡ e.Part n span a b → c ≡ a → d ≡ b → x ≡ moved pre ps c → y ≡ moved pre ps d
      → r ≡ moved_part pre (meaning_of ps n) n span x y → r ≡ moved pre ps tree
  unfolding shape-the_row-Expr-0 hidden-the_row-Expr-0 denote.Hole.Carrier.hidden
  part_moved tree n span a b c d x y r is i j h k m =
      m ∙ ((λ z. moved_part pre (meaning_of ps n) n span ((h ∙ ap (moved pre ps) i) z) ((k ∙ ap (moved pre ps) j) z)) ∙ sym (ap (moved pre ps) is))

  pub constant_select_moved : (tree : Expr) (v : Constant) (a b x r : Expr) → tree ≡ e.ConstantSelect v a → b ≡ a → x ≡ moved pre ps b → r ≡ e.ConstantSelect v x → r ≡ moved pre ps tree
  unfolding shape-the_row-Expr-0 hidden-the_row-Expr-0 denote.Hole.Carrier.hidden
  constant_select_moved tree v a b x r is i h m = m ∙ (ap (e.ConstantSelect v) (h ∙ ap (moved pre ps) i) ∙ sym (ap (moved pre ps) is))

  pub constant_part_moved : (tree : Expr) (v : Constant) (span : Span) (a b c d x y r : Expr) → tree ≡ e.ConstantPart v span a b → c ≡ a → d ≡ b → x ≡ moved pre ps c → y ≡ moved pre ps d
      → r ≡ e.ConstantPart v span x y → r ≡ moved pre ps tree
  unfolding shape-the_row-Expr-0 hidden-the_row-Expr-0 denote.Hole.Carrier.hidden
  constant_part_moved tree v span a b c d x y r is i j h k m =
      m ∙ ((λ z. e.ConstantPart v span ((h ∙ ap (moved pre ps) i) z) ((k ∙ ap (moved pre ps) j) z)) ∙ sym (ap (moved pre ps) is))

  pub cast_moved : (tree : Expr) (kind : Cast) (a b x r : Expr) → tree ≡ e.Cast kind a → b ≡ a → x ≡ moved pre ps b → r ≡ e.Cast kind x → r ≡ moved pre ps tree
  unfolding shape-the_row-Expr-0 hidden-the_row-Expr-0 denote.Hole.Carrier.hidden
  cast_moved tree kind a b x r is i h m = m ∙ (ap (e.Cast kind) (h ∙ ap (moved pre ps) i) ∙ sym (ap (moved pre ps) is))

  pub paren_moved : (tree a b x r : Expr) → tree ≡ e.Paren a → b ≡ a → x ≡ moved pre ps b → r ≡ e.Paren x → r ≡ moved pre ps tree
  unfolding shape-the_row-Expr-0 hidden-the_row-Expr-0 denote.Hole.Carrier.hidden
  paren_moved tree a b x r is i h m = m ∙ (ap e.Paren (h ∙ ap (moved pre ps) i) ∙ sym (ap (moved pre ps) is))

  pub unary_moved : (tree : Expr) (op : Unary) (a b x r : Expr) → tree ≡ e.Unary op a → b ≡ a → x ≡ moved pre ps b → r ≡ e.Unary op x → r ≡ moved pre ps tree
  unfolding shape-the_row-Expr-0 hidden-the_row-Expr-0 denote.Hole.Carrier.hidden
  unary_moved tree op a b x r is i h m = m ∙ (ap (e.Unary op) (h ∙ ap (moved pre ps) i) ∙ sym (ap (moved pre ps) is))

  pub binary_moved : (tree : Expr) (op : Binary) (a b c d x y r : Expr) → tree ≡ e.Binary op a b → c ≡ a → d ≡ b → x ≡ moved pre ps c → y ≡ moved pre ps d
      → r ≡ e.Binary op x y → r ≡ moved pre ps tree
  unfolding shape-the_row-Expr-0 hidden-the_row-Expr-0 denote.Hole.Carrier.hidden
  binary_moved tree op a b c d x y r is i j h k m =
      m ∙ ((λ z. e.Binary op ((h ∙ ap (moved pre ps) i) z) ((k ∙ ap (moved pre ps) j) z)) ∙ sym (ap (moved pre ps) is))

  pub choice_moved : (tree : Expr) (t a b u c d w x y r : Expr) → tree ≡ e.Choice t a b → u ≡ t → c ≡ a → d ≡ b → w ≡ moved pre ps u → x ≡ moved pre ps c → y ≡ moved pre ps d
      → r ≡ e.Choice w x y → r ≡ moved pre ps tree
  unfolding shape-the_row-Expr-0 hidden-the_row-Expr-0 denote.Hole.Carrier.hidden
  choice_moved tree t a b u c d w x y r is q i j g h k m =
      m ∙ ((λ z. e.Choice ((g ∙ ap (moved pre ps) q) z) ((h ∙ ap (moved pre ps) i) z) ((k ∙ ap (moved pre ps) j) z)) ∙ sym (ap (moved pre ps) is))

-- ---- selects, by what the name stands for

pub select_some : (pre : Name) (m o : Option Constant) (k : Constant) (n : Read) (a : Expr) → o ≡ m → o ≡ Some k → e.ConstantSelect k a ≡ moved_select pre m n a
unfolding shape-the_row-Expr-0 hidden-the_row-Expr-0 denote.Hole.Carrier.hidden
select_some pre m o k n a h i = ap (λ z. moved_select pre z n a) (sym i ∙ h)

pub select_none : (pre : Name) (m o : Option Constant) (n x : Read) (a : Expr) → o ≡ m → o ≡ None → x ≡ under pre n → e.Select x a ≡ moved_select pre m n a
unfolding shape-the_row-Expr-0 hidden-the_row-Expr-0 denote.Hole.Carrier.hidden
select_none pre m o n x a h i g = ap (λ z. e.Select z a) g ∙ ap (λ z. moved_select pre z n a) (sym i ∙ h)

pub part_some : (pre : Name) (m o : Option Constant) (k : Constant) (n : Read) (span : Span) (a b : Expr) → o ≡ m → o ≡ Some k → e.ConstantPart k span a b ≡ moved_part pre m n span a b
unfolding shape-the_row-Expr-0 hidden-the_row-Expr-0 denote.Hole.Carrier.hidden
part_some pre m o k n span a b h i = ap (λ z. moved_part pre z n span a b) (sym i ∙ h)

pub part_none : (pre : Name) (m o : Option Constant) (n x : Read) (span : Span) (a b : Expr) → o ≡ m → o ≡ None → x ≡ under pre n → e.Part x span a b ≡ moved_part pre m n span a b
unfolding shape-the_row-Expr-0 hidden-the_row-Expr-0 denote.Hole.Carrier.hidden
part_none pre m o n x span a b h i g = ap (λ z. e.Part z span a b) g ∙ ap (λ z. moved_part pre z n span a b) (sym i ∙ h)
