-- Whether the parts of each form of an expression that must be constant are so.
use Rattle.std.proofs.Common.{◌≡◌, ℕ, ◌+◌, ◌<◌, Bool, ◌&&◌, List, ◌∷◌, length, drop, get_or, add-one, refl, sym, ap, subst, ◌∙◌}
use Rattle.vlog_tree.specs.declared.expr.Name.{Name as Read}
use Rattle.vlog_tree.specs.declared.expr.Span.{Span}
use Rattle.vlog_tree.specs.declared.expr.Unary.{Unary}
use Rattle.vlog_tree.specs.declared.expr.Binary.{Binary}
use Rattle.vlog_tree.specs.declared.expr.Cast.{Cast}
use Rattle.vlog_tree.specs.declared.expr.Constant.{Constant}
use Rattle.vlog_tree.specs.declared.expr.Expr.{Expr, Row_of-Expr, end_of-Expr, more_of-Expr, items-the_row-Expr, items_hidden-the_row-Expr-1}
use Rattle.vlog_tree.specs.declared.expr.Expr.TheVariants as e
use Rattle.vlog_tree.specs.declared.expr.Expr.TheBlock.{shape-the_row-Expr-0, hidden-the_row-Expr-0, shape-the_row-Expr-1, hidden-the_row-Expr-1}
use Rattle.vlog_tree.specs.Value.{NamesOnly, HasConstantParts, AllHaveConstantParts, IsPartConstant, IsDivisionConstant}
use Rattle.vlog_tree_runs.specs.Places.{Name}
use Rattle.elab_flat_scopes.proofs.Finding.{cut}
use Rattle.elab_flat_params.proofs.Divisors.{Decides, decides_both, decides_as}
use Rattle.elab_flat_widths.specs.Taken.{EachHasConstantParts}
use denote.Hole.Carrier

module _ (test : Name → Bool) where
  rows : (m : _) (row : Row_of-Expr m) → AllHaveConstantParts test row ≡ EachHasConstantParts test (items-the_row-Expr m row)
  rows m end_of-Expr = refl
  rows m (more_of-Expr a rest) = ap (λ P. HasConstantParts test a × P) (rows _ rest)

  listed : (xs : List Expr) → AllHaveConstantParts test (hidden-the_row-Expr-1 xs) ≡ EachHasConstantParts test xs
  listed xs = rows _ (hidden-the_row-Expr-1 xs) ∙ ap (EachHasConstantParts test) (items_hidden-the_row-Expr-1 xs)

  abbrev pub Parts : Expr → Bool → Type 0
  Parts a b = Decides (HasConstantParts test a) b

  pub select_parts : (tree : Expr) (n : Read) (a x : Expr) (r : Bool) → tree ≡ e.Select n a → x ≡ a → Parts x r → Parts tree r
  unfolding shape-the_row-Expr-0 hidden-the_row-Expr-0 denote.Hole.Carrier.hidden
  select_parts tree n a x r is i f = subst (λ t. Parts t r) (sym is) (subst (λ t. Parts t r) i f)

  pub constant_select_parts : (tree : Expr) (k : Constant) (a x : Expr) (r : Bool) → tree ≡ e.ConstantSelect k a → x ≡ a → Parts x r → Parts tree r
  unfolding shape-the_row-Expr-0 hidden-the_row-Expr-0 denote.Hole.Carrier.hidden
  constant_select_parts tree k a x r is i f = subst (λ t. Parts t r) (sym is) (subst (λ t. Parts t r) i f)

  pub cast_parts : (tree : Expr) (k : Cast) (a x : Expr) (r : Bool) → tree ≡ e.Cast k a → x ≡ a → Parts x r → Parts tree r
  unfolding shape-the_row-Expr-0 hidden-the_row-Expr-0 denote.Hole.Carrier.hidden
  cast_parts tree k a x r is i f = subst (λ t. Parts t r) (sym is) (subst (λ t. Parts t r) i f)

  pub paren_parts : (tree a x : Expr) (r : Bool) → tree ≡ e.Paren a → x ≡ a → Parts x r → Parts tree r
  unfolding shape-the_row-Expr-0 hidden-the_row-Expr-0 denote.Hole.Carrier.hidden
  paren_parts tree a x r is i f = subst (λ t. Parts t r) (sym is) (subst (λ t. Parts t r) i f)

  pub unary_parts : (tree : Expr) (op : Unary) (a x : Expr) (r : Bool) → tree ≡ e.Unary op a → x ≡ a → Parts x r → Parts tree r
  unfolding shape-the_row-Expr-0 hidden-the_row-Expr-0 denote.Hole.Carrier.hidden
  unary_parts tree op a x r is i f = subst (λ t. Parts t r) (sym is) (subst (λ t. Parts t r) i f)

  -- two parts, and what both together are asked
  both : (P : Expr → Expr → Type 0) (a b x y x' y' : Expr) (p q m r : Bool) → x ≡ a → y ≡ b → x' ≡ a → y' ≡ b → Parts x p → Parts y q → Decides (P x' y') m → r ≡ (p && (q && m)) →
      Decides (HasConstantParts test a × HasConstantParts test b × P a b) r
  both P a b x y x' y' p q m r i j i' j' f g k l =
      let more = subst (λ t. Decides (P t b) m) i' (subst (λ t. Decides (P x' t) m) j' k) in
      let right = decides_both (HasConstantParts test b) (P a b) q m (q && m) (subst (λ t. Parts t q) j g) more refl in
      let all = decides_both (HasConstantParts test a) (HasConstantParts test b × P a b) p (q && m) r (subst (λ t. Parts t p) i f) right l in
      decides_as (HasConstantParts test a × (HasConstantParts test b × P a b)) (HasConstantParts test a × HasConstantParts test b × P a b) r (λ z. (z.0, z.1.0, z.1.1)) (λ z. (z.0, (z.1, z.2))) all

  pub part_parts : (tree : Expr) (s : Read) (w : Span) (a b x y x' y' : Expr) (p q m r : Bool) → tree ≡ e.Part s w a b → x ≡ a → y ≡ b → x' ≡ a → y' ≡ b → Parts x p → Parts y q →
      Decides (IsPartConstant test w x' y') m → r ≡ (p && (q && m)) → Parts tree r
  unfolding shape-the_row-Expr-0 hidden-the_row-Expr-0 denote.Hole.Carrier.hidden
  part_parts tree s w a b x y x' y' p q m r is i j i' j' f g k l = subst (λ t. Parts t r) (sym is) (both (IsPartConstant test w) a b x y x' y' p q m r i j i' j' f g k l)

  pub constant_part_parts : (tree : Expr) (s : Constant) (w : Span) (a b x y x' y' : Expr) (p q m r : Bool) → tree ≡ e.ConstantPart s w a b → x ≡ a → y ≡ b → x' ≡ a → y' ≡ b → Parts x p → Parts y q →
      Decides (IsPartConstant test w x' y') m → r ≡ (p && (q && m)) → Parts tree r
  unfolding shape-the_row-Expr-0 hidden-the_row-Expr-0 denote.Hole.Carrier.hidden
  constant_part_parts tree s w a b x y x' y' p q m r is i j i' j' f g k l = subst (λ t. Parts t r) (sym is) (both (IsPartConstant test w) a b x y x' y' p q m r i j i' j' f g k l)

  pub binary_parts : (tree : Expr) (op : Binary) (a b x y x' y' : Expr) (p q m r : Bool) → tree ≡ e.Binary op a b → x ≡ a → y ≡ b → x' ≡ a → y' ≡ b → Parts x p → Parts y q →
      Decides (IsDivisionConstant test op x' y') m → r ≡ (p && (q && m)) → Parts tree r
  unfolding shape-the_row-Expr-0 hidden-the_row-Expr-0 denote.Hole.Carrier.hidden
  binary_parts tree op a b x y x' y' p q m r is i j i' j' f g k l = subst (λ t. Parts t r) (sym is) (both (IsDivisionConstant test op) a b x y x' y' p q m r i j i' j' f g k l)

  pub choice_parts : (tree : Expr) (c a b w x y : Expr) (o p q r : Bool) → tree ≡ e.Choice c a b → w ≡ c → x ≡ a → y ≡ b → Parts w o → Parts x p → Parts y q → r ≡ (o && (p && q)) → Parts tree r
  unfolding shape-the_row-Expr-0 hidden-the_row-Expr-0 denote.Hole.Carrier.hidden
  choice_parts tree c a b w x y o p q r is u i j f g h l =
      let branches = decides_both (HasConstantParts test a) (HasConstantParts test b) p q (p && q) (subst (λ t. Parts t p) i g) (subst (λ t. Parts t q) j h) refl in
      let all = decides_both (HasConstantParts test c) (HasConstantParts test a × HasConstantParts test b) o (p && q) r (subst (λ t. Parts t o) u f) branches l in
      subst (λ t. Parts t r) (sym is)
      (decides_as (HasConstantParts test c × (HasConstantParts test a × HasConstantParts test b)) (HasConstantParts test c × HasConstantParts test a × HasConstantParts test b) r (λ z. (z.0, z.1.0, z.1.1)) (λ z. (z.0, (z.1, z.2))) all)

  pub concat_parts : (tree : Expr) (xs ys : List Expr) (r : Bool) → tree ≡ e.Concat xs → ys ≡ xs → Decides (EachHasConstantParts test ys) r → Parts tree r
  unfolding shape-the_row-Expr-1 hidden-the_row-Expr-1 denote.Hole.Carrier.hidden
  concat_parts tree xs ys r is i f = subst (λ t. Parts t r) (sym is) (subst (λ P. Decides P r) (sym (listed xs)) (subst (λ zs. Decides (EachHasConstantParts test zs) r) i f))

  pub repeat_parts : (tree a x x' : Expr) (xs ys : List Expr) (p q m r : Bool) → tree ≡ e.Repeat a xs → x ≡ a → x' ≡ a → ys ≡ xs → Parts x p → Decides (NamesOnly test x') q →
      Decides (EachHasConstantParts test ys) m → r ≡ (p && (q && m)) → Parts tree r
  unfolding shape-the_row-Expr-0 hidden-the_row-Expr-0 shape-the_row-Expr-1 hidden-the_row-Expr-1 denote.Hole.Carrier.hidden
  repeat_parts tree a x x' xs ys p q m r is i i' j f g k l =
      let row = subst (λ P. Decides P m) (sym (listed xs)) (subst (λ zs. Decides (EachHasConstantParts test zs) m) j k) in
      let right = decides_both (NamesOnly test a) (AllHaveConstantParts test (hidden-the_row-Expr-1 xs)) q m (q && m) (subst (λ t. Decides (NamesOnly test t) q) i' g) row refl in
      let all = decides_both (HasConstantParts test a) (NamesOnly test a × AllHaveConstantParts test (hidden-the_row-Expr-1 xs)) p (q && m) r (subst (λ t. Parts t p) i f) right l in
      subst (λ t. Parts t r) (sym is)
      (decides_as (HasConstantParts test a × (NamesOnly test a × AllHaveConstantParts test (hidden-the_row-Expr-1 xs))) (HasConstantParts test a × NamesOnly test a × AllHaveConstantParts test (hidden-the_row-Expr-1 xs)) r
      (λ z. (z.0, z.1.0, z.1.1)) (λ z. (z.0, (z.1, z.2))) all)

  -- what holds of each of a list holds of the rest from a place on, and the other way round
  pub record IsLeft (xs rest : List Expr) : Type 0 where
    pub forth : EachHasConstantParts test xs → EachHasConstantParts test rest
    pub back : EachHasConstantParts test rest → EachHasConstantParts test xs

  here : (xs : List Expr) (i : ℕ) (x : Expr) → i < length xs → x ≡ get_or xs i x → IsLeft xs (drop i xs) → IsLeft xs (x ∷ drop (i + 1) xs)
  here xs i x lt is inv = subst (IsLeft xs) (cut xs i x lt is ∙ ap (λ k. x ∷ drop k xs) (sym (add-one i))) inv

  pub left_on : (xs : List Expr) (i : ℕ) (x : Expr) → i < length xs → x ≡ get_or xs i x → HasConstantParts test x → IsLeft xs (drop i xs) → IsLeft xs (drop (i + 1) xs)
  left_on xs i x lt is h inv = let at = here xs i x lt is inv in record { forth = λ all. (at.forth all).1; back = λ rest. at.back (h, rest) }

  pub left_false : (xs : List Expr) (i : ℕ) (x : Expr) → i < length xs → x ≡ get_or xs i x → (HasConstantParts test x → ⊥) → IsLeft xs (drop i xs) → EachHasConstantParts test xs → ⊥
  left_false xs i x lt is h inv all = let at = here xs i x lt is inv in h (at.forth all).0
