-- The names in each form of an expression, as the code reads them, and lists that grow at their ends.
use Rattle.std.proofs.Common.{◌≡◌, List, [], ◌∷◌, ◌++◌, map, append_assoc, Result, Ok, Err, refl, sym, ap, ◌∙◌}
use Rattle.std.specs.Prelude.{OnOk}
use Rattle.std.specs.List.{flat_map}
use Rattle.std.proofs.lemmas.List.{map-append}
use Rattle.vlog_tree.specs.declared.expr.Name.{Name as Read}
use Rattle.vlog_tree.specs.declared.expr.Unary.{Unary}
use Rattle.vlog_tree.specs.declared.expr.Binary.{Binary}
use Rattle.vlog_tree.specs.declared.expr.Cast.{Cast}
use Rattle.vlog_tree.specs.declared.expr.Span.{Span}
use Rattle.vlog_tree.specs.declared.expr.Constant.{Constant}
use Rattle.vlog_tree.specs.declared.expr.Expr.{Expr, Row_of-Expr, end_of-Expr, more_of-Expr, items-the_row-Expr, items_hidden-the_row-Expr-1}
use Rattle.vlog_tree.specs.declared.expr.Expr.TheVariants as e
use Rattle.vlog_tree.specs.declared.expr.Expr.TheBlock.{shape-the_row-Expr-0, hidden-the_row-Expr-0, hidden-the_row-Expr-1}
use Rattle.twin_tests.specs.Leaves.{names_in, row_names_in}
use denote.Hole.Carrier

-- ---- forms

rows : (m : _) (row : Row_of-Expr m) → row_names_in row ≡ flat_map names_in (items-the_row-Expr m row)
rows m end_of-Expr = refl
rows m (more_of-Expr a rest) = ap (λ xs. names_in a ++ xs) (rows _ rest)

listed : (xs ys : List Expr) → ys ≡ xs → row_names_in (hidden-the_row-Expr-1 xs) ≡ flat_map names_in ys
listed xs ys same = rows _ (hidden-the_row-Expr-1 xs) ∙ ap (flat_map names_in) (items_hidden-the_row-Expr-1 xs ∙ sym same)

pub select_names : (n : Read) (a x tree : Expr) → tree ≡ e.Select n a → x ≡ a → n ∷ names_in x ≡ names_in tree
unfolding shape-the_row-Expr-0 hidden-the_row-Expr-0 denote.Hole.Carrier.hidden
select_names n a x tree is same = ap (λ z. n ∷ names_in z) same ∙ sym (ap names_in is)

pub part_names : (n : Read) (s : Span) (a b x y tree : Expr) → tree ≡ e.Part n s a b → x ≡ a → y ≡ b → n ∷ names_in x ++ names_in y ≡ names_in tree
unfolding shape-the_row-Expr-0 hidden-the_row-Expr-0 denote.Hole.Carrier.hidden
part_names n s a b x y tree is f g = (λ i. n ∷ names_in (f i) ++ names_in (g i)) ∙ sym (ap names_in is)

pub constant_select_names : (k : Constant) (a x tree : Expr) → tree ≡ e.ConstantSelect k a → x ≡ a → names_in x ≡ names_in tree
unfolding shape-the_row-Expr-0 hidden-the_row-Expr-0 denote.Hole.Carrier.hidden
constant_select_names k a x tree is same = ap names_in same ∙ sym (ap names_in is)

pub constant_part_names : (k : Constant) (s : Span) (a b x y tree : Expr) → tree ≡ e.ConstantPart k s a b → x ≡ a → y ≡ b → names_in x ++ names_in y ≡ names_in tree
unfolding shape-the_row-Expr-0 hidden-the_row-Expr-0 denote.Hole.Carrier.hidden
constant_part_names k s a b x y tree is f g = (λ i. names_in (f i) ++ names_in (g i)) ∙ sym (ap names_in is)

pub cast_names : (c : Cast) (a x tree : Expr) → tree ≡ e.Cast c a → x ≡ a → names_in x ≡ names_in tree
unfolding shape-the_row-Expr-0 hidden-the_row-Expr-0 denote.Hole.Carrier.hidden
cast_names c a x tree is same = ap names_in same ∙ sym (ap names_in is)

pub paren_names : (a x tree : Expr) → tree ≡ e.Paren a → x ≡ a → names_in x ≡ names_in tree
unfolding shape-the_row-Expr-0 hidden-the_row-Expr-0 denote.Hole.Carrier.hidden
paren_names a x tree is same = ap names_in same ∙ sym (ap names_in is)

pub unary_names : (op : Unary) (a x tree : Expr) → tree ≡ e.Unary op a → x ≡ a → names_in x ≡ names_in tree
unfolding shape-the_row-Expr-0 hidden-the_row-Expr-0 denote.Hole.Carrier.hidden
unary_names op a x tree is same = ap names_in same ∙ sym (ap names_in is)

pub binary_names : (op : Binary) (a b x y tree : Expr) → tree ≡ e.Binary op a b → x ≡ a → y ≡ b → names_in x ++ names_in y ≡ names_in tree
unfolding shape-the_row-Expr-0 hidden-the_row-Expr-0 denote.Hole.Carrier.hidden
binary_names op a b x y tree is f g = (λ i. names_in (f i) ++ names_in (g i)) ∙ sym (ap names_in is)

pub choice_names : (c a b w x y tree : Expr) → tree ≡ e.Choice c a b → w ≡ c → x ≡ a → y ≡ b → names_in w ++ (names_in x ++ names_in y) ≡ names_in tree
unfolding shape-the_row-Expr-0 hidden-the_row-Expr-0 denote.Hole.Carrier.hidden
choice_names c a b w x y tree is u f g = (λ i. names_in (u i) ++ (names_in (f i) ++ names_in (g i))) ∙ sym (ap names_in is)

pub concat_names : (xs ys : List Expr) (tree : Expr) → tree ≡ e.Concat xs → ys ≡ xs → flat_map names_in ys ≡ names_in tree
concat_names xs ys tree is same = sym (ap names_in is ∙ listed xs ys same)

pub repeat_names : (a x tree : Expr) (xs ys : List Expr) → tree ≡ e.Repeat a xs → x ≡ a → ys ≡ xs → names_in x ++ flat_map names_in ys ≡ names_in tree
unfolding shape-the_row-Expr-0 hidden-the_row-Expr-0 denote.Hole.Carrier.hidden
repeat_names a x tree xs ys is f same = ap (λ z. names_in z ++ flat_map names_in ys) f ∙ (ap (λ z. names_in a ++ z) (sym (listed xs ys same)) ∙ sym (ap names_in is))

-- ---- lists that grow

pub ok_then : {T E : Type 0} (r : Result T E) (P Q : Type 0) → OnOk r P → (P → Q) → OnOk r Q
ok_then (Ok x) P Q h f = f h
ok_then (Err e) P Q h f = tt

module _ {A B : Type 0} (f : A → B) where
  -- one more at the end, and then others
  pub added : (old mid new : List A) (x : A) (ys zs : List B) → mid ≡ old ++ x ∷ [] → map f new ≡ map f mid ++ ys → f x ∷ ys ≡ zs → map f new ≡ map f old ++ zs
  added old mid new x ys zs e h g =
      h ∙ (ap (λ m. map f m ++ ys) e ∙ (ap (λ z. z ++ ys) (map-append f old (x ∷ [])) ∙ (append_assoc (map f old) (f x ∷ []) ys ∙ ap (λ z. map f old ++ z) g)))

  -- some at the end, and then others
  pub twice : (old mid new : List A) (xs ys zs : List B) → map f mid ≡ map f old ++ xs → map f new ≡ map f mid ++ ys → xs ++ ys ≡ zs → map f new ≡ map f old ++ zs
  twice old mid new xs ys zs e h g = h ∙ (ap (λ z. z ++ ys) e ∙ (append_assoc (map f old) xs ys ∙ ap (λ z. map f old ++ z) g))

  pub same_end : (old new : List A) (ys zs : List B) → map f new ≡ map f old ++ ys → ys ≡ zs → map f new ≡ map f old ++ zs
  same_end old new ys zs h g = h ∙ ap (λ z. map f old ++ z) g
