-- Expressions that name nothing.
use Rattle.std.proofs.Common.{◌≡◌, suc, Bool, true, false, nat_eq, List, [], ◌∷◌, ◌++◌, length, ap, refl}
use Rattle.std.specs.Prelude.{IsTrue}
use Rattle.std.proofs.lemmas.Bool.{eqb-true}
use Rattle.vlog_tree.specs.declared.expr.Expr.{Expr, Row_of-Expr, end_of-Expr, more_of-Expr}
use Rattle.vlog_tree.specs.declared.expr.Expr.TheVariants as e
use Rattle.vlog_tree.specs.declared.valuation.Entry.{Entry}
use Rattle.vlog_tree.specs.Value.{operand_of, row_of, unary_of, binary_of, choice_of, cast_of, joined, repeated, bit_of, part_of, NamesOnly, AllNamesOnly}
use Rattle.vlog_tree_runs.specs.Places.{Name}
use Rattle.elab_flat_faults.specs.Texts.{names_in, row_names_in}
use Rattle.mem_laws.specs.Spread.{is_constant}

-- no name
abbrev pub nothing : Name → Bool
nothing x = false

never : {A : Type 0} → IsTrue false → A
never h = let no : ⊥ = cc in absurd no

-- ---- constants mean the same by all values

mutual
  pub constant_means : (v : List Entry) (a : Expr) → NamesOnly nothing a → operand_of v a ≡ operand_of [] a
  constant_means v (e.Number n) d = refl
  constant_means v (e.Name x) d = never d
  constant_means v (e.Select' x h (more_of-Expr a end_of-Expr)) d = never d.0
  constant_means v (e.Part' x span h (more_of-Expr a end_of-Expr) g (more_of-Expr b end_of-Expr)) d = never d.0
  constant_means v (e.ConstantSelect' k h (more_of-Expr a end_of-Expr)) d = ap (bit_of k) (constant_means v a d)
  constant_means v (e.ConstantPart' k span h (more_of-Expr a end_of-Expr) g (more_of-Expr b end_of-Expr)) d =
      λ r. part_of k span (constant_means v a d.0 r) (constant_means v b d.1 r)
  constant_means v (e.Cast' cast h (more_of-Expr a end_of-Expr)) d = ap (cast_of cast) (constant_means v a d)
  constant_means v (e.Paren' h (more_of-Expr a end_of-Expr)) d = constant_means v a d
  constant_means v (e.Concat' h row) d = constants_mean v row d
  constant_means v (e.Repeat' h (more_of-Expr a end_of-Expr) g row) d = λ r. repeated (constant_means v a d.0 r) (constants_mean v row d.1 r)
  constant_means v (e.Unary' op h (more_of-Expr a end_of-Expr)) d = ap (unary_of op) (constant_means v a d)
  constant_means v (e.Binary' op h (more_of-Expr a end_of-Expr) g (more_of-Expr b end_of-Expr)) d =
      λ r. binary_of op (constant_means v a d.0 r) (constant_means v b d.1 r)
  constant_means v (e.Choice' h (more_of-Expr c end_of-Expr) g (more_of-Expr a end_of-Expr) i (more_of-Expr b end_of-Expr)) d =
      λ r. choice_of (constant_means v c d.0 r) (constant_means v a d.1 r) (constant_means v b d.2 r)

  constants_mean : {n : _} (v : List Entry) (row : Row_of-Expr n) → AllNamesOnly nothing row → row_of v row ≡ row_of [] row
  constants_mean v end_of-Expr d = refl
  constants_mean v (more_of-Expr a rest) d = λ r. joined (constant_means v a d.0 r) (constants_mean v rest d.1 r)

-- ---- an expression without names names nothing

no_first : (xs ys : List Name) → xs ++ ys ≡ [] → xs ≡ []
no_first [] ys h = refl
no_first (x ∷ xs) ys h = cc

no_second : (xs ys : List Name) → xs ++ ys ≡ [] → ys ≡ []
no_second [] ys h = h
no_second (x ∷ xs) ys h = cc

mutual
  pub unnamed : (a : Expr) → names_in a ≡ [] → NamesOnly nothing a
  unnamed (e.Number n) d = tt
  unnamed (e.Name x) d = cc
  unnamed (e.Select' x h (more_of-Expr a end_of-Expr)) d = cc
  unnamed (e.Part' x span h (more_of-Expr a end_of-Expr) g (more_of-Expr b end_of-Expr)) d = cc
  unnamed (e.ConstantSelect' k h (more_of-Expr a end_of-Expr)) d = unnamed a d
  unnamed (e.ConstantPart' k span h (more_of-Expr a end_of-Expr) g (more_of-Expr b end_of-Expr)) d =
      (unnamed a (no_first (names_in a) (names_in b) d), unnamed b (no_second (names_in a) (names_in b) d))
  unnamed (e.Cast' cast h (more_of-Expr a end_of-Expr)) d = unnamed a d
  unnamed (e.Paren' h (more_of-Expr a end_of-Expr)) d = unnamed a d
  unnamed (e.Concat' h row) d = row_unnamed row d
  unnamed (e.Repeat' h (more_of-Expr a end_of-Expr) g row) d =
      (unnamed a (no_first (names_in a) (row_names_in row) d), row_unnamed row (no_second (names_in a) (row_names_in row) d))
  unnamed (e.Unary' op h (more_of-Expr a end_of-Expr)) d = unnamed a d
  unnamed (e.Binary' op h (more_of-Expr a end_of-Expr) g (more_of-Expr b end_of-Expr)) d =
      (unnamed a (no_first (names_in a) (names_in b) d), unnamed b (no_second (names_in a) (names_in b) d))
  unnamed (e.Choice' h (more_of-Expr c end_of-Expr) g (more_of-Expr a end_of-Expr) i (more_of-Expr b end_of-Expr)) d =
      let f = no_first (names_in c ++ names_in a) (names_in b) d in (
        unnamed c (no_first (names_in c) (names_in a) f),
        unnamed a (no_second (names_in c) (names_in a) f),
        unnamed b (no_second (names_in c ++ names_in a) (names_in b) d),
      )

  row_unnamed : {n : _} (row : Row_of-Expr n) → row_names_in row ≡ [] → AllNamesOnly nothing row
  row_unnamed end_of-Expr d = tt
  row_unnamed (more_of-Expr a rest) d =
      (unnamed a (no_first (names_in a) (row_names_in rest) d), row_unnamed rest (no_second (names_in a) (row_names_in rest) d))

join_none : (xs ys : List Name) → xs ≡ [] → ys ≡ [] → xs ++ ys ≡ []
join_none xs ys h k = λ r. h r ++ k r

mutual
  pub no_names : (a : Expr) → NamesOnly nothing a → names_in a ≡ []
  no_names (e.Number n) d = refl
  no_names (e.Name x) d = never d
  no_names (e.Select' x h (more_of-Expr a end_of-Expr)) d = never d.0
  no_names (e.Part' x span h (more_of-Expr a end_of-Expr) g (more_of-Expr b end_of-Expr)) d = never d.0
  no_names (e.ConstantSelect' k h (more_of-Expr a end_of-Expr)) d = no_names a d
  no_names (e.ConstantPart' k span h (more_of-Expr a end_of-Expr) g (more_of-Expr b end_of-Expr)) d = join_none _ _ (no_names a d.0) (no_names b d.1)
  no_names (e.Cast' cast h (more_of-Expr a end_of-Expr)) d = no_names a d
  no_names (e.Paren' h (more_of-Expr a end_of-Expr)) d = no_names a d
  no_names (e.Concat' h row) d = no_row_names row d
  no_names (e.Repeat' h (more_of-Expr a end_of-Expr) g row) d = join_none _ _ (no_names a d.0) (no_row_names row d.1)
  no_names (e.Unary' op h (more_of-Expr a end_of-Expr)) d = no_names a d
  no_names (e.Binary' op h (more_of-Expr a end_of-Expr) g (more_of-Expr b end_of-Expr)) d = join_none _ _ (no_names a d.0) (no_names b d.1)
  no_names (e.Choice' h (more_of-Expr c end_of-Expr) g (more_of-Expr a end_of-Expr) i (more_of-Expr b end_of-Expr)) d =
      join_none _ _ (join_none _ _ (no_names c d.0) (no_names a d.1)) (no_names b d.2)

  no_row_names : {n : _} (row : Row_of-Expr n) → AllNamesOnly nothing row → row_names_in row ≡ []
  no_row_names end_of-Expr d = refl
  no_row_names (more_of-Expr a rest) d = join_none _ _ (no_names a d.0) (no_row_names rest d.1)

-- ---- the test

none_long : (xs : List Name) → nat_eq (length xs) 0 ≡ true → xs ≡ []
none_long [] h = refl
none_long (x ∷ xs) h = let z : suc (length xs) ≡ 0 = eqb-true (suc (length xs)) 0 h in cc

pub constant_names : (a : Expr) → is_constant a ≡ true → NamesOnly nothing a
constant_names a h = unnamed a (none_long (names_in a) h)

pub names_constant : (a : Expr) → NamesOnly nothing a → is_constant a ≡ true
names_constant a d = ap (λ xs. nat_eq (length xs) 0) (no_names a d)
