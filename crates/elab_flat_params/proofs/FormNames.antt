-- The names in each form of an expression, as the code reads it, and searches among them.
use Rattle.std.proofs.Common.{◌≡◌, List, [], ◌∷◌, ◌++◌, Option, Bool, Bor, refl, sym, ap, ◌∙◌}
use Rattle.std.specs.List.{find, flat_map}
use Rattle.std.specs.Option.{option_copied, option_or}
use Rattle.vlog_tree.specs.declared.expr.Name.{Name as Read}
use Rattle.std.proofs.lemmas.List.{append_assoc}
use Rattle.vlog_tree_runs.specs.Places.{Name}
use Rattle.vlog_tree.specs.declared.expr.Unary.{Unary}
use Rattle.vlog_tree.specs.declared.expr.Binary.{Binary}
use Rattle.vlog_tree.specs.declared.expr.Cast.{Cast}
use Rattle.vlog_tree.specs.declared.expr.Span.{Span}
use Rattle.vlog_tree.specs.declared.expr.Constant.{Constant}
use Rattle.vlog_tree.specs.declared.expr.Expr.{Expr, Row_of-Expr, end_of-Expr, more_of-Expr, items-the_row-Expr, items_hidden-the_row-Expr-1}
use Rattle.vlog_tree.specs.declared.expr.Expr.TheVariants as e
use Rattle.vlog_tree.specs.declared.expr.Expr.TheBlock.{shape-the_row-Expr-0, hidden-the_row-Expr-0, shape-the_row-Expr-1, hidden-the_row-Expr-1}
use Rattle.elab_flat_faults.specs.Texts.{names_in, row_names_in}
use Rattle.elab_flat_params.proofs.Searches.{or_finds}
use denote.Hole.Carrier

-- the names in a row are those in its list
row_names : (m : _) (row : Row_of-Expr m) → row_names_in row ≡ flat_map names_in (items-the_row-Expr m row)
row_names m end_of-Expr = refl
row_names m (more_of-Expr a rest) = ap (λ xs. names_in a ++ xs) (row_names _ rest)

list_names : (xs : List Expr) → row_names_in (hidden-the_row-Expr-1 xs) ≡ flat_map names_in xs
list_names xs = row_names _ (hidden-the_row-Expr-1 xs) ∙ ap (flat_map names_in) (items_hidden-the_row-Expr-1 xs)

module _ (p : Name → Bool) where
  -- this is what a search through the names of an expression gives
  abbrev pub Gives : List Name → Option (Bor Name) → Type 0
  Gives xs o = option_copied o ≡ find p xs

  pub select_gives : (tree : Expr) (n : Read) (a x : Expr) (l r o : Option (Bor Name)) → tree ≡ e.Select n a → x ≡ a → Gives (n.text ∷ []) l → Gives (names_in x) r → o ≡ option_or l r → Gives (names_in tree) o
  unfolding shape-the_row-Expr-0 hidden-the_row-Expr-0 denote.Hole.Carrier.hidden
  select_gives tree n a x l r o is i f g h = or_finds p (n.text ∷ []) (names_in x) l r o f g h ∙ ap (find p) (ap (λ z. n.text ∷ names_in z) i ∙ sym (ap names_in is))

  pub part_gives : (tree : Expr) (n : Read) (s : Span) (a b x y : Expr) (l m r q o : Option (Bor Name)) → tree ≡ e.Part n s a b → x ≡ a → y ≡ b
      → Gives (n.text ∷ []) l → Gives (names_in x) m → Gives (names_in y) r → q ≡ option_or m r → o ≡ option_or l q → Gives (names_in tree) o
  unfolding shape-the_row-Expr-0 hidden-the_row-Expr-0 denote.Hole.Carrier.hidden
  part_gives tree n s a b x y l m r q o is i j f g k h h' =
      or_finds p (n.text ∷ []) (names_in x ++ names_in y) l q o f (or_finds p (names_in x) (names_in y) m r q g k h) h'
      ∙ ap (find p) ((λ z. n.text ∷ (names_in (i z) ++ names_in (j z))) ∙ sym (ap names_in is))

  pub constant_select_gives : (tree : Expr) (k : Constant) (a x : Expr) (o : Option (Bor Name)) → tree ≡ e.ConstantSelect k a → x ≡ a → Gives (names_in x) o → Gives (names_in tree) o
  unfolding shape-the_row-Expr-0 hidden-the_row-Expr-0 denote.Hole.Carrier.hidden
  constant_select_gives tree k a x o is i g = g ∙ ap (find p) (ap names_in i ∙ sym (ap names_in is))

  pub constant_part_gives : (tree : Expr) (k : Constant) (s : Span) (a b x y : Expr) (l r o : Option (Bor Name)) → tree ≡ e.ConstantPart k s a b → x ≡ a → y ≡ b
      → Gives (names_in x) l → Gives (names_in y) r → o ≡ option_or l r → Gives (names_in tree) o
  unfolding shape-the_row-Expr-0 hidden-the_row-Expr-0 denote.Hole.Carrier.hidden
  constant_part_gives tree k s a b x y l r o is i j f g h =
      or_finds p (names_in x) (names_in y) l r o f g h ∙ ap (find p) ((λ z. names_in (i z) ++ names_in (j z)) ∙ sym (ap names_in is))

  pub cast_gives : (tree : Expr) (c : Cast) (a x : Expr) (o : Option (Bor Name)) → tree ≡ e.Cast c a → x ≡ a → Gives (names_in x) o → Gives (names_in tree) o
  unfolding shape-the_row-Expr-0 hidden-the_row-Expr-0 denote.Hole.Carrier.hidden
  cast_gives tree c a x o is i g = g ∙ ap (find p) (ap names_in i ∙ sym (ap names_in is))

  pub paren_gives : (tree a x : Expr) (o : Option (Bor Name)) → tree ≡ e.Paren a → x ≡ a → Gives (names_in x) o → Gives (names_in tree) o
  unfolding shape-the_row-Expr-0 hidden-the_row-Expr-0 denote.Hole.Carrier.hidden
  paren_gives tree a x o is i g = g ∙ ap (find p) (ap names_in i ∙ sym (ap names_in is))

  pub unary_gives : (tree : Expr) (op : Unary) (a x : Expr) (o : Option (Bor Name)) → tree ≡ e.Unary op a → x ≡ a → Gives (names_in x) o → Gives (names_in tree) o
  unfolding shape-the_row-Expr-0 hidden-the_row-Expr-0 denote.Hole.Carrier.hidden
  unary_gives tree op a x o is i g = g ∙ ap (find p) (ap names_in i ∙ sym (ap names_in is))

  pub binary_gives : (tree : Expr) (op : Binary) (a b x y : Expr) (l r o : Option (Bor Name)) → tree ≡ e.Binary op a b → x ≡ a → y ≡ b
      → Gives (names_in x) l → Gives (names_in y) r → o ≡ option_or l r → Gives (names_in tree) o
  unfolding shape-the_row-Expr-0 hidden-the_row-Expr-0 denote.Hole.Carrier.hidden
  binary_gives tree op a b x y l r o is i j f g h =
      or_finds p (names_in x) (names_in y) l r o f g h ∙ ap (find p) ((λ z. names_in (i z) ++ names_in (j z)) ∙ sym (ap names_in is))

  pub choice_gives : (tree : Expr) (c a b w x y : Expr) (l m r q o : Option (Bor Name)) → tree ≡ e.Choice c a b → w ≡ c → x ≡ a → y ≡ b
      → Gives (names_in w) l → Gives (names_in x) m → Gives (names_in y) r → q ≡ option_or m r → o ≡ option_or l q → Gives (names_in tree) o
  unfolding shape-the_row-Expr-0 hidden-the_row-Expr-0 denote.Hole.Carrier.hidden
  choice_gives tree c a b w x y l m r q o is u i j f g k h h' =
      or_finds p (names_in w) (names_in x ++ names_in y) l q o f (or_finds p (names_in x) (names_in y) m r q g k h) h'
      ∙ ap (find p) ((λ z. names_in (u z) ++ (names_in (i z) ++ names_in (j z))) ∙ (sym (append_assoc (names_in c) (names_in a) (names_in b)) ∙ sym (ap names_in is)))

  pub concat_gives : (tree : Expr) (xs ys : List Expr) (o : Option (Bor Name)) → tree ≡ e.Concat xs → ys ≡ xs → Gives (flat_map names_in ys) o → Gives (names_in tree) o
  unfolding shape-the_row-Expr-1 hidden-the_row-Expr-1 denote.Hole.Carrier.hidden
  concat_gives tree xs ys o is i g = g ∙ ap (find p) (ap (flat_map names_in) i ∙ (sym (list_names xs) ∙ sym (ap names_in is)))

  pub repeat_gives : (tree a x : Expr) (xs ys : List Expr) (l r o : Option (Bor Name)) → tree ≡ e.Repeat a xs → x ≡ a → ys ≡ xs
      → Gives (names_in x) l → Gives (flat_map names_in ys) r → o ≡ option_or l r → Gives (names_in tree) o
  unfolding shape-the_row-Expr-0 hidden-the_row-Expr-0 shape-the_row-Expr-1 hidden-the_row-Expr-1 denote.Hole.Carrier.hidden
  repeat_gives tree a x xs ys l r o is i j f g h =
      or_finds p (names_in x) (flat_map names_in ys) l r o f g h
      ∙ ap (find p) ((λ z. names_in (i z) ++ flat_map names_in (j z)) ∙ (ap (λ z. names_in a ++ z) (sym (list_names xs)) ∙ sym (ap names_in is)))
