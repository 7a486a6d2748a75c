-- Whether no divisor is 0 in the bounds of each form of an expression.
use Rattle.std.proofs.Common.{◌≡◌, ℕ, suc, ◌+◌, ◌<◌, Bool, true, false, ◌&&◌, List, ◌∷◌, Result, Ok, Err, length, drop, get_or, drop-cons, add-one, refl, sym, ap, subst, ◌∙◌}
use Rattle.std.specs.Bool.{MatchBool}
use Rattle.std.specs.Prelude.{IfOk}
use Rattle.vlog_tree.specs.declared.expr.Name.{Name as Read}
use Rattle.vlog_tree.specs.declared.expr.Span.{Span}
use Rattle.vlog_tree.specs.declared.expr.Unary.{Unary}
use Rattle.vlog_tree.specs.declared.expr.Binary.{Binary}
use Rattle.vlog_tree.specs.declared.expr.Cast.{Cast}
use Rattle.vlog_tree.specs.declared.expr.Constant.{Constant}
use Rattle.vlog_tree.specs.declared.expr.Expr.{Expr, Row_of-Expr, end_of-Expr, more_of-Expr, items-the_row-Expr, items_hidden-the_row-Expr-1}
use Rattle.vlog_tree.specs.declared.expr.Expr.TheVariants as e
use Rattle.vlog_tree.specs.declared.expr.Expr.TheBlock.{shape-the_row-Expr-0, hidden-the_row-Expr-0, shape-the_row-Expr-1, hidden-the_row-Expr-1}
use Rattle.vlog_tree.specs.declared.valuation.Entry.{Entry}
use Rattle.elab_flat_faults.specs.Constants.{IsOwnDefined, IsBoundDefined, BoundsDefined, AllBoundsDefined}
use Rattle.elab_flat_params.specs.Bounds.{EachBoundsDefined}
use denote.Hole.Carrier

abbrev pub Decides : Type 0 → Bool → Type 0
Decides P b = MatchBool b P (P → ⊥)

pub decides_both : (P Q : Type 0) (a b r : Bool) → Decides P a → Decides Q b → r ≡ (a && b) → Decides (P × Q) r
decides_both P Q true true r p q is = subst (Decides (P × Q)) (sym is) (p, q)
decides_both P Q true false r p q is = subst (Decides (P × Q)) (sym is) (λ h. q h.1)
decides_both P Q false b r p q is = subst (Decides (P × Q)) (sym is) (λ h. p h.0)

pub decided_true : (P : Type 0) (b : Bool) → Decides P b → b ≡ true → P
decided_true P true d e = d
decided_true P false d e = cc

pub decided_false : (P : Type 0) (b : Bool) → Decides P b → b ≡ false → P → ⊥
decided_false P true d e = cc
decided_false P false d e = d

-- what follows from what a call answers
pub ok_as : {T E : Type 0} (o : Result T E) (P Q : T → Type 0) → ((r : T) → P r → Q r) → IfOk o P → IfOk o Q
ok_as (Ok r) P Q f h = f r h
ok_as (Err e) P Q f h = tt

-- what says the same is decided alike
pub decides_as : (P Q : Type 0) (r : Bool) → (P → Q) → (Q → P) → Decides P r → Decides Q r
decides_as P Q true f g p = f p
decides_as P Q false f g p = λ q. p (g q)

module _ (v : List Entry) where
  rows : (m : _) (row : Row_of-Expr m) → AllBoundsDefined v row ≡ EachBoundsDefined v (items-the_row-Expr m row)
  rows m end_of-Expr = refl
  rows m (more_of-Expr a rest) = ap (λ P. BoundsDefined v a × P) (rows _ rest)

  listed : (xs : List Expr) → AllBoundsDefined v (hidden-the_row-Expr-1 xs) ≡ EachBoundsDefined v xs
  listed xs = rows _ (hidden-the_row-Expr-1 xs) ∙ ap (EachBoundsDefined v) (items_hidden-the_row-Expr-1 xs)

  abbrev pub Bounds : Expr → Bool → Type 0
  Bounds a b = Decides (BoundsDefined v a) b

  abbrev pub EachDecided : List Expr → Bool → Type 0
  EachDecided xs b = Decides (EachBoundsDefined v xs) b

  pub select_bounds : (tree : Expr) (n : Read) (a x : Expr) (r : Bool) → tree ≡ e.Select n a → x ≡ a → Bounds x r → Bounds tree r
  unfolding shape-the_row-Expr-0 hidden-the_row-Expr-0 denote.Hole.Carrier.hidden
  select_bounds tree n a x r is i f = subst (λ t. Bounds t r) (sym is) (subst (λ t. Bounds t r) i f)

  pub constant_select_bounds : (tree : Expr) (k : Constant) (a x : Expr) (r : Bool) → tree ≡ e.ConstantSelect k a → x ≡ a → Bounds x r → Bounds tree r
  unfolding shape-the_row-Expr-0 hidden-the_row-Expr-0 denote.Hole.Carrier.hidden
  constant_select_bounds tree k a x r is i f = subst (λ t. Bounds t r) (sym is) (subst (λ t. Bounds t r) i f)

  pub cast_bounds : (tree : Expr) (k : Cast) (a x : Expr) (r : Bool) → tree ≡ e.Cast k a → x ≡ a → Bounds x r → Bounds tree r
  unfolding shape-the_row-Expr-0 hidden-the_row-Expr-0 denote.Hole.Carrier.hidden
  cast_bounds tree k a x r is i f = subst (λ t. Bounds t r) (sym is) (subst (λ t. Bounds t r) i f)

  pub paren_bounds : (tree a x : Expr) (r : Bool) → tree ≡ e.Paren a → x ≡ a → Bounds x r → Bounds tree r
  unfolding shape-the_row-Expr-0 hidden-the_row-Expr-0 denote.Hole.Carrier.hidden
  paren_bounds tree a x r is i f = subst (λ t. Bounds t r) (sym is) (subst (λ t. Bounds t r) i f)

  pub unary_bounds : (tree : Expr) (op : Unary) (a x : Expr) (r : Bool) → tree ≡ e.Unary op a → x ≡ a → Bounds x r → Bounds tree r
  unfolding shape-the_row-Expr-0 hidden-the_row-Expr-0 denote.Hole.Carrier.hidden
  unary_bounds tree op a x r is i f = subst (λ t. Bounds t r) (sym is) (subst (λ t. Bounds t r) i f)

  pub binary_bounds : (tree : Expr) (op : Binary) (a b x y : Expr) (p q r : Bool) → tree ≡ e.Binary op a b → x ≡ a → y ≡ b → Bounds x p → Bounds y q → r ≡ (p && q) → Bounds tree r
  unfolding shape-the_row-Expr-0 hidden-the_row-Expr-0 denote.Hole.Carrier.hidden
  binary_bounds tree op a b x y p q r is i j f g h =
      subst (λ t. Bounds t r) (sym is) (decides_both (BoundsDefined v a) (BoundsDefined v b) p q r (subst (λ t. Bounds t p) i f) (subst (λ t. Bounds t q) j g) h)

  pub choice_bounds : (tree : Expr) (c a b w x y : Expr) (o p q s r : Bool) → tree ≡ e.Choice c a b → w ≡ c → x ≡ a → y ≡ b → Bounds w o → Bounds x p → Bounds y q →
      s ≡ (p && q) → r ≡ (o && s) → Bounds tree r
  unfolding shape-the_row-Expr-0 hidden-the_row-Expr-0 denote.Hole.Carrier.hidden
  choice_bounds tree c a b w x y o p q s r is u i j f g h k l =
      let branches = decides_both (BoundsDefined v a) (BoundsDefined v b) p q s (subst (λ t. Bounds t p) i g) (subst (λ t. Bounds t q) j h) k in
      let all = decides_both (BoundsDefined v c) (BoundsDefined v a × BoundsDefined v b) o s r (subst (λ t. Bounds t o) u f) branches l in
      subst (λ t. Bounds t r) (sym is)
      (decides_as (BoundsDefined v c × (BoundsDefined v a × BoundsDefined v b)) (BoundsDefined v c × BoundsDefined v a × BoundsDefined v b) r (λ z. (z.0, z.1.0, z.1.1)) (λ z. (z.0, (z.1, z.2))) all)

  -- the two numbers of a part-select
  part : (s : Span) (a b x y x' y' : Expr) (p q n m r : Bool) → x ≡ a → y ≡ b → x' ≡ a → y' ≡ b → Bounds x p → Bounds y q → n ≡ (p && q) → Decides (IsBoundDefined v s x' y') m → r ≡ (n && m) →
      Decides (BoundsDefined v a × BoundsDefined v b × IsBoundDefined v s a b) r
  part s a b x y x' y' p q n m r i j i' j' f g h k l =
      let within = decides_both (BoundsDefined v a) (BoundsDefined v b) p q n (subst (λ t. Bounds t p) i f) (subst (λ t. Bounds t q) j g) h in
      let span = subst (λ t. Decides (IsBoundDefined v s t b) m) i' (subst (λ t. Decides (IsBoundDefined v s x' t) m) j' k) in
      let all = decides_both (BoundsDefined v a × BoundsDefined v b) (IsBoundDefined v s a b) n m r within span l in
      decides_as ((BoundsDefined v a × BoundsDefined v b) × IsBoundDefined v s a b) (BoundsDefined v a × BoundsDefined v b × IsBoundDefined v s a b) r
      (λ z. (z.0.0, z.0.1, z.1)) (λ z. ((z.0, z.1), z.2)) all

  pub part_bounds : (tree : Expr) (n : Read) (s : Span) (a b x y x' y' : Expr) (p q w m r : Bool) → tree ≡ e.Part n s a b → x ≡ a → y ≡ b → x' ≡ a → y' ≡ b → Bounds x p → Bounds y q → w ≡ (p && q) →
      Decides (IsBoundDefined v s x' y') m → r ≡ (w && m) → Bounds tree r
  unfolding shape-the_row-Expr-0 hidden-the_row-Expr-0 denote.Hole.Carrier.hidden
  part_bounds tree n s a b x y x' y' p q w m r is i j i' j' f g h k l = subst (λ t. Bounds t r) (sym is) (part s a b x y x' y' p q w m r i j i' j' f g h k l)

  pub constant_part_bounds : (tree : Expr) (n : Constant) (s : Span) (a b x y x' y' : Expr) (p q w m r : Bool) → tree ≡ e.ConstantPart n s a b → x ≡ a → y ≡ b → x' ≡ a → y' ≡ b → Bounds x p → Bounds y q →
      w ≡ (p && q) → Decides (IsBoundDefined v s x' y') m → r ≡ (w && m) → Bounds tree r
  unfolding shape-the_row-Expr-0 hidden-the_row-Expr-0 denote.Hole.Carrier.hidden
  constant_part_bounds tree n s a b x y x' y' p q w m r is i j i' j' f g h k l = subst (λ t. Bounds t r) (sym is) (part s a b x y x' y' p q w m r i j i' j' f g h k l)

  pub concat_bounds : (tree : Expr) (xs ys : List Expr) (r : Bool) → tree ≡ e.Concat xs → ys ≡ xs → Decides (EachBoundsDefined v ys) r → Bounds tree r
  unfolding shape-the_row-Expr-1 hidden-the_row-Expr-1 denote.Hole.Carrier.hidden
  concat_bounds tree xs ys r is i f = subst (λ t. Bounds t r) (sym is) (subst (λ P. Decides P r) (sym (listed xs)) (subst (λ zs. Decides (EachBoundsDefined v zs) r) i f))

  pub repeat_bounds : (tree a x w : Expr) (xs ys : List Expr) (o p n m r : Bool) → tree ≡ e.Repeat a xs → x ≡ a → w ≡ a → ys ≡ xs → Bounds x o → Decides (IsOwnDefined v w) p → n ≡ (o && p) →
      Decides (EachBoundsDefined v ys) m → r ≡ (n && m) → Bounds tree r
  unfolding shape-the_row-Expr-0 hidden-the_row-Expr-0 shape-the_row-Expr-1 hidden-the_row-Expr-1 denote.Hole.Carrier.hidden
  repeat_bounds tree a x w xs ys o p n m r is i u j f g h k l =
      let count = decides_both (BoundsDefined v a) (IsOwnDefined v a) o p n (subst (λ t. Bounds t o) i f) (subst (λ t. Decides (IsOwnDefined v t) p) u g) h in
      let row = subst (λ P. Decides P m) (sym (listed xs)) (subst (λ zs. Decides (EachBoundsDefined v zs) m) j k) in
      let all = decides_both (BoundsDefined v a × IsOwnDefined v a) (AllBoundsDefined v (hidden-the_row-Expr-1 xs)) n m r count row l in
      subst (λ t. Bounds t r) (sym is)
      (decides_as ((BoundsDefined v a × IsOwnDefined v a) × AllBoundsDefined v (hidden-the_row-Expr-1 xs)) (BoundsDefined v a × IsOwnDefined v a × AllBoundsDefined v (hidden-the_row-Expr-1 xs)) r
      (λ z. (z.0.0, z.0.1, z.1)) (λ z. ((z.0, z.1), z.2)) all)

  -- a loop along a list
  cut : (xs : List Expr) (i : ℕ) (x : Expr) → i < length xs → x ≡ get_or xs i x → drop i xs ≡ x ∷ drop (i + 1) xs
  cut xs i x lt is = rw add-one (drop-cons xs i x lt ∙ ap (λ z. z ∷ drop (suc i) xs) (sym is))

  -- what holds of a list holds of the rest from a place on, and the other way round
  pub record IsLeft (xs rest : List Expr) : Type 0 where
    pub forth : EachBoundsDefined v xs → EachBoundsDefined v rest
    pub back : EachBoundsDefined v rest → EachBoundsDefined v xs

  pub left_on : (xs : List Expr) (i : ℕ) (x : Expr) → i < length xs → x ≡ get_or xs i x → BoundsDefined v x → IsLeft xs (drop i xs) → IsLeft xs (drop (i + 1) xs)
  left_on xs i x lt is h inv =
      let at = subst (IsLeft xs) (cut xs i x lt is) inv in
      record { forth = λ all. (at.forth all).1; back = λ rest. at.back (h, rest) }

  pub left_false : (xs : List Expr) (i : ℕ) (x : Expr) → i < length xs → x ≡ get_or xs i x → (BoundsDefined v x → ⊥) → IsLeft xs (drop i xs) → EachBoundsDefined v xs → ⊥
  left_false xs i x lt is h inv all = let at = subst (IsLeft xs) (cut xs i x lt is) inv in h (at.forth all).0
