-- Each form of an expression, as the code reads it and makes it without memories.
use Rattle.std.proofs.Common.{ℕ, ◌≡◌, ◌≤◌, Bool, true, false, nat_eq, List, [], ◌∷◌, ◌++◌, Option, Some, None, refl, sym, ap, ◌∙◌, map, drop, length, drop_of_length-le, get_or, zero, suc, ◌<◌, arith, subst}
use Rattle.std.specs.Prelude.{if◌then◌else◌}
use Rattle.std.proofs.lemmas.List.{append-nil}
use Rattle.vlog_tree.specs.declared.expr.Binary.{Binary}
use Rattle.vlog_tree.specs.declared.expr.Cast.{Cast}
use Rattle.vlog_tree.specs.declared.expr.Constant.{Constant}
use Rattle.vlog_tree.specs.declared.expr.Expr.{Expr, Row_of-Expr, end_of-Expr, more_of-Expr, roll-Expr, roll-out-Expr, items-the_row-Expr, items_shown-the_row-Expr-1, items_hidden-the_row-Expr-1}
use Rattle.vlog_tree.specs.declared.expr.Expr.TheVariants as e
use Rattle.vlog_tree.specs.declared.expr.Expr.TheBlock.{shape-the_row-Expr-0, hidden-the_row-Expr-0, shown-the_row-Expr-0, shape-the_row-Expr-1, hidden-the_row-Expr-1, shown-the_row-Expr-1}
use Rattle.vlog_tree.specs.declared.expr.Name.{Name as Read}
use Rattle.vlog_tree.specs.declared.expr.Span.{Span}
use Rattle.vlog_tree.specs.declared.expr.Unary.{Unary}
use Rattle.vlog_tree.specs.declared.valuation.Entry.{Entry}
use Rattle.vlog_tree.specs.Valuation.{depth_of}
use Rattle.mem_laws.specs.Spread.{spread, spread_row, memory_read}
use Rattle.mem_faults.specs.Asked.{IsEvaluable, HasEvaluable, HaveEvaluable, EachEvaluable}
use denote.Hole.Carrier

-- ---- rows

-- a concatenation by its row is the one by its list
concat_is : (q : _) (row : _) → e.Concat' q row ≡ e.Concat (items-the_row-Expr _ row)
concat_is q row =
    (sym (roll-out-Expr (e.Concat' q row)) ∙ (ap roll-Expr (e.outs-Concat' q row) ∙ e.rolls-Concat (shown-the_row-Expr-1 q row)))
    ∙ ap e.Concat (items_shown-the_row-Expr-1 q row)

-- the same of a replication
repeat_is : (a : Expr) (q : _) (row : _) → e.Repeat' tt (more_of-Expr a end_of-Expr) q row ≡ e.Repeat a (items-the_row-Expr _ row)
unfolding shape-the_row-Expr-0 hidden-the_row-Expr-0 denote.Hole.Carrier.hidden shown-the_row-Expr-0 shown-the_row-Expr-1 Carrier.shown
repeat_is a q row =
    (sym (roll-out-Expr (e.Repeat' tt (more_of-Expr a end_of-Expr) q row)) ∙ (ap roll-Expr (e.outs-Repeat' tt (more_of-Expr a end_of-Expr) q row) ∙ e.rolls-Repeat _ (shown-the_row-Expr-1 q row)))
    ∙ ap (e.Repeat a) (items_shown-the_row-Expr-1 q row)

-- a loop that has made all
pub loop_done : {A : Type 0} (f : A → A) (xs : List A) (i : ℕ) (all : List A) → length xs ≤ i → all ++ map f (drop i xs) ≡ map f xs → all ≡ map f xs
loop_done f xs i all le h = sym (append-nil all) ∙ (ap (λ ys. all ++ map f ys) (sym (drop_of_length-le xs {i = i} le)) ∙ h)

module _ (v : List Entry) where
  row_items : {m : _} (row : Row_of-Expr m) → items-the_row-Expr m (spread_row v row) ≡ map (spread v) (items-the_row-Expr m row)
  row_items end_of-Expr = refl
  row_items (more_of-Expr a rest) = ap (λ xs. spread v a ∷ xs) (row_items rest)

  list_items : (xs : List Expr) → items-the_row-Expr _ (spread_row v (hidden-the_row-Expr-1 xs)) ≡ map (spread v) xs
  list_items xs = row_items (hidden-the_row-Expr-1 xs) ∙ ap (map (spread v)) (items_hidden-the_row-Expr-1 xs)

  pub concat_spread : (tree : Expr) (xs ys zs : List Expr) (r : Expr) → tree ≡ e.Concat xs → ys ≡ xs → zs ≡ map (spread v) ys → r ≡ e.Concat zs → r ≡ spread v tree
  concat_spread tree xs ys zs r is i h m =
      m ∙ (ap e.Concat (h ∙ (ap (map (spread v)) i ∙ sym (list_items xs)))
      ∙ (sym (concat_is (shape-the_row-Expr-1 xs) (spread_row v (hidden-the_row-Expr-1 xs))) ∙ sym (ap (spread v) is)))

  pub repeat_spread : (tree a b x : Expr) (xs ys zs : List Expr) (r : Expr) → tree ≡ e.Repeat a xs → b ≡ a → ys ≡ xs → x ≡ spread v b → zs ≡ map (spread v) ys
      → r ≡ e.Repeat x zs → r ≡ spread v tree
  unfolding shape-the_row-Expr-0 hidden-the_row-Expr-0 denote.Hole.Carrier.hidden
  repeat_spread tree a b x xs ys zs r is j i k h m =
      m ∙ ((λ z. e.Repeat ((k ∙ ap (spread v) j) z) ((h ∙ (ap (map (spread v)) i ∙ sym (list_items xs))) z))
      ∙ (sym (repeat_is (spread v a) (shape-the_row-Expr-1 xs) (spread_row v (hidden-the_row-Expr-1 xs))) ∙ sym (ap (spread v) is)))

  -- ---- operands

  pub select_spread : (tree : Expr) (n : Read) (a b x r : Expr) → tree ≡ e.Select n a → b ≡ a → x ≡ spread v b →
      r ≡ (if nat_eq (depth_of v n) 0 then e.Select n x else memory_read v n b x) → r ≡ spread v tree
  unfolding shape-the_row-Expr-0 hidden-the_row-Expr-0 denote.Hole.Carrier.hidden
  select_spread tree n a b x r is i h m =
      m ∙ ((λ z. if nat_eq (depth_of v n) 0 then e.Select n ((h ∙ ap (spread v) i) z) else memory_read v n (i z) ((h ∙ ap (spread v) i) z)) ∙ sym (ap (spread v) is))

  pub part_spread : (tree : Expr) (n k : Read) (span : Span) (a b c d x y r : Expr) → tree ≡ e.Part n span a b → k ≡ n → c ≡ a → d ≡ b → x ≡ spread v c → y ≡ spread v d
      → r ≡ e.Part k span x y → r ≡ spread v tree
  unfolding shape-the_row-Expr-0 hidden-the_row-Expr-0 denote.Hole.Carrier.hidden
  part_spread tree n k span a b c d x y r is g i j h l m =
      m ∙ ((λ z. e.Part (g z) span ((h ∙ ap (spread v) i) z) ((l ∙ ap (spread v) j) z)) ∙ sym (ap (spread v) is))

  pub constant_select_spread : (tree : Expr) (k : Constant) (a b x r : Expr) → tree ≡ e.ConstantSelect k a → b ≡ a → x ≡ spread v b → r ≡ e.ConstantSelect k x → r ≡ spread v tree
  unfolding shape-the_row-Expr-0 hidden-the_row-Expr-0 denote.Hole.Carrier.hidden
  constant_select_spread tree k a b x r is i h m = m ∙ (ap (e.ConstantSelect k) (h ∙ ap (spread v) i) ∙ sym (ap (spread v) is))

  pub constant_part_spread : (tree : Expr) (k : Constant) (span : Span) (a b c d x y r : Expr) → tree ≡ e.ConstantPart k span a b → c ≡ a → d ≡ b → x ≡ spread v c → y ≡ spread v d
      → r ≡ e.ConstantPart k span x y → r ≡ spread v tree
  unfolding shape-the_row-Expr-0 hidden-the_row-Expr-0 denote.Hole.Carrier.hidden
  constant_part_spread tree k span a b c d x y r is i j h l m =
      m ∙ ((λ z. e.ConstantPart k span ((h ∙ ap (spread v) i) z) ((l ∙ ap (spread v) j) z)) ∙ sym (ap (spread v) is))

  pub cast_spread : (tree : Expr) (kind : Cast) (a b x r : Expr) → tree ≡ e.Cast kind a → b ≡ a → x ≡ spread v b → r ≡ e.Cast kind x → r ≡ spread v tree
  unfolding shape-the_row-Expr-0 hidden-the_row-Expr-0 denote.Hole.Carrier.hidden
  cast_spread tree kind a b x r is i h m = m ∙ (ap (e.Cast kind) (h ∙ ap (spread v) i) ∙ sym (ap (spread v) is))

  pub paren_spread : (tree a b x r : Expr) → tree ≡ e.Paren a → b ≡ a → x ≡ spread v b → r ≡ e.Paren x → r ≡ spread v tree
  unfolding shape-the_row-Expr-0 hidden-the_row-Expr-0 denote.Hole.Carrier.hidden
  paren_spread tree a b x r is i h m = m ∙ (ap e.Paren (h ∙ ap (spread v) i) ∙ sym (ap (spread v) is))

  pub unary_spread : (tree : Expr) (op : Unary) (a b x r : Expr) → tree ≡ e.Unary op a → b ≡ a → x ≡ spread v b → r ≡ e.Unary op x → r ≡ spread v tree
  unfolding shape-the_row-Expr-0 hidden-the_row-Expr-0 denote.Hole.Carrier.hidden
  unary_spread tree op a b x r is i h m = m ∙ (ap (e.Unary op) (h ∙ ap (spread v) i) ∙ sym (ap (spread v) is))

  pub binary_spread : (tree : Expr) (op : Binary) (a b c d x y r : Expr) → tree ≡ e.Binary op a b → c ≡ a → d ≡ b → x ≡ spread v c → y ≡ spread v d
      → r ≡ e.Binary op x y → r ≡ spread v tree
  unfolding shape-the_row-Expr-0 hidden-the_row-Expr-0 denote.Hole.Carrier.hidden
  binary_spread tree op a b c d x y r is i j h k m =
      m ∙ ((λ z. e.Binary op ((h ∙ ap (spread v) i) z) ((k ∙ ap (spread v) j) z)) ∙ sym (ap (spread v) is))

  pub choice_spread : (tree : Expr) (t a b u c d w x y r : Expr) → tree ≡ e.Choice t a b → u ≡ t → c ≡ a → d ≡ b → w ≡ spread v u → x ≡ spread v c → y ≡ spread v d
      → r ≡ e.Choice w x y → r ≡ spread v tree
  unfolding shape-the_row-Expr-0 hidden-the_row-Expr-0 denote.Hole.Carrier.hidden
  choice_spread tree t a b u c d w x y r is q i j g h k m =
      m ∙ ((λ z. e.Choice ((g ∙ ap (spread v) q) z) ((h ∙ ap (spread v) i) z) ((k ∙ ap (spread v) j) z)) ∙ sym (ap (spread v) is))

  -- ---- what is asked of the parts

  abbrev Asked : Expr → Type 0
  Asked a = HasEvaluable v a

  abbrev EachAsked : List Expr → Type 0
  EachAsked xs = EachEvaluable v xs

  row_asked : {m : _} (row : Row_of-Expr m) → HaveEvaluable v row → EachAsked (items-the_row-Expr m row)
  row_asked end_of-Expr h = tt
  row_asked (more_of-Expr a rest) h = (h.0, row_asked rest h.1)

  list_asked : (xs : List Expr) → HaveEvaluable v (hidden-the_row-Expr-1 xs) → EachAsked xs
  list_asked xs h = subst EachAsked (items_hidden-the_row-Expr-1 xs) (row_asked (hidden-the_row-Expr-1 xs) h)

  pub select_asked : (tree : Expr) (n : Read) (a b : Expr) → tree ≡ e.Select n a → b ≡ a → Asked tree → (nat_eq (depth_of v n) 0 ≡ false → IsEvaluable b) × Asked b
  unfolding shape-the_row-Expr-0 hidden-the_row-Expr-0 denote.Hole.Carrier.hidden
  select_asked tree n a b is i h = subst (λ z. (nat_eq (depth_of v n) 0 ≡ false → IsEvaluable z) × Asked z) (sym i) (subst Asked is h)

  pub part_asked : (tree : Expr) (n : Read) (span : Span) (a b c d : Expr) → tree ≡ e.Part n span a b → c ≡ a → d ≡ b → Asked tree → Asked c × Asked d
  unfolding shape-the_row-Expr-0 hidden-the_row-Expr-0 denote.Hole.Carrier.hidden
  part_asked tree n span a b c d is i j h = let k = subst Asked is h in (subst Asked (sym i) k.0, subst Asked (sym j) k.1)

  pub constant_select_asked : (tree : Expr) (k : Constant) (a b : Expr) → tree ≡ e.ConstantSelect k a → b ≡ a → Asked tree → Asked b
  unfolding shape-the_row-Expr-0 hidden-the_row-Expr-0 denote.Hole.Carrier.hidden
  constant_select_asked tree k a b is i h = subst Asked (sym i) (subst Asked is h)

  pub constant_part_asked : (tree : Expr) (k : Constant) (span : Span) (a b c d : Expr) → tree ≡ e.ConstantPart k span a b → c ≡ a → d ≡ b → Asked tree → Asked c × Asked d
  unfolding shape-the_row-Expr-0 hidden-the_row-Expr-0 denote.Hole.Carrier.hidden
  constant_part_asked tree k span a b c d is i j h = let n = subst Asked is h in (subst Asked (sym i) n.0, subst Asked (sym j) n.1)

  pub cast_asked : (tree : Expr) (k : Cast) (a b : Expr) → tree ≡ e.Cast k a → b ≡ a → Asked tree → Asked b
  unfolding shape-the_row-Expr-0 hidden-the_row-Expr-0 denote.Hole.Carrier.hidden
  cast_asked tree k a b is i h = subst Asked (sym i) (subst Asked is h)

  pub paren_asked : (tree a b : Expr) → tree ≡ e.Paren a → b ≡ a → Asked tree → Asked b
  unfolding shape-the_row-Expr-0 hidden-the_row-Expr-0 denote.Hole.Carrier.hidden
  paren_asked tree a b is i h = subst Asked (sym i) (subst Asked is h)

  pub concat_asked : (tree : Expr) (xs ys : List Expr) → tree ≡ e.Concat xs → ys ≡ xs → Asked tree → EachAsked ys
  concat_asked tree xs ys is i h = subst EachAsked (sym i) (list_asked xs (subst Asked is h))

  pub repeat_asked : (tree a b : Expr) (xs ys : List Expr) → tree ≡ e.Repeat a xs → b ≡ a → ys ≡ xs → Asked tree → Asked b × EachAsked ys
  unfolding shape-the_row-Expr-0 hidden-the_row-Expr-0 denote.Hole.Carrier.hidden
  repeat_asked tree a b xs ys is i j h = let k = subst Asked is h in (subst Asked (sym i) k.0, subst EachAsked (sym j) (list_asked xs k.1))

  pub unary_asked : (tree : Expr) (op : Unary) (a b : Expr) → tree ≡ e.Unary op a → b ≡ a → Asked tree → Asked b
  unfolding shape-the_row-Expr-0 hidden-the_row-Expr-0 denote.Hole.Carrier.hidden
  unary_asked tree op a b is i h = subst Asked (sym i) (subst Asked is h)

  pub binary_asked : (tree : Expr) (op : Binary) (a b c d : Expr) → tree ≡ e.Binary op a b → c ≡ a → d ≡ b → Asked tree → Asked c × Asked d
  unfolding shape-the_row-Expr-0 hidden-the_row-Expr-0 denote.Hole.Carrier.hidden
  binary_asked tree op a b c d is i j h = let k = subst Asked is h in (subst Asked (sym i) k.0, subst Asked (sym j) k.1)

  pub choice_asked : (tree t a b u c d : Expr) → tree ≡ e.Choice t a b → u ≡ t → c ≡ a → d ≡ b → Asked tree → Asked u × Asked c × Asked d
  unfolding shape-the_row-Expr-0 hidden-the_row-Expr-0 denote.Hole.Carrier.hidden
  choice_asked tree t a b u c d is g i j h = let k = subst Asked is h in (subst Asked (sym g) k.0, subst Asked (sym i) k.1, subst Asked (sym j) k.2)

  pub each_asked : (xs : List Expr) (i : ℕ) (a d : Expr) → EachAsked xs → i < length xs → a ≡ get_or xs i d → Asked a
  each_asked [] i a d h lt same = absurd (omega arith)
  each_asked (x ∷ xs) zero a d h lt same = subst Asked (sym same) h.0
  each_asked (x ∷ xs) (suc i) a d h lt same = each_asked xs i a d h.1 (omega arith) same
