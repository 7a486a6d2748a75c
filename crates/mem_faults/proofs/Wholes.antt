-- What is used without exactly one plain index, and with one, by the parts that expressions and left sides have.
use Rattle.std.proofs.Common.{◌≡◌, ℕ, ◌+◌, ◌<◌, ◌&&◌, Bool, true, false, cond, ◌⊎◌, inl, inr, List, [], ◌∷◌, ◌++◌, map, filter, length, append_assoc, refl, sym, ap, ◌∙◌, subst, arith}
use Rattle.std.specs.List.{flat_map, list_any, count_by}
use Rattle.vlog_tree.specs.declared.expr.Expr.{Expr, Row_of-Expr, end_of-Expr, more_of-Expr}
use Rattle.vlog_tree.specs.declared.expr.Expr.TheVariants as e
use Rattle.vlog_tree.specs.declared.stmt.Lval.{Lval, Row_of-Lval, end_of-Lval, more_of-Lval}
use Rattle.vlog_tree.specs.declared.stmt.Lval.TheVariants as l
use Rattle.vlog_tree_runs.specs.declared.flat.Flat.{Flat}
use Rattle.vlog_tree_runs.specs.Places.{Name, Among}
use Rattle.vlog_tree_runs.specs.Blocks.{left_names}
use Rattle.elab_flat_faults.specs.Texts.{names_in, row_names_in}
use Rattle.elab_flat_laws.proofs.Lists.{flat_append}
use Rattle.elab_flat_faults.specs.Drivers.{parts_of, row_parts_of, exprs_of}
use Rattle.elab_flat_drivers.specs.Parts.{reads_of, row_reads}
use Rattle.mem_laws.specs.Uses.{whole_in, row_whole_in, whole_lefts, row_whole_lefts, Indexed, indexed_in, row_indexed_in, indexed_lefts, row_indexed_lefts, lefts_of}
use Rattle.mem_faults.specs.Used.{whole_names}
use Rattle.mem_faults.proofs.Using.{told}

-- the name and the index of a use with one index
abbrev pub indexed_names : Lval → List Indexed
indexed_names (l.Name x) = []
indexed_names (l.Select x a) = record { name = x; index = a } ∷ []
indexed_names (l.Part x span a b) = []
indexed_names (l.Concat' h row) = []

-- what parts have, one list of them after another
module _ {A : Type 0} (g : Lval → List A) where
  two : (qs ps : List Lval) (us vs : List A) → flat_map g qs ≡ us → flat_map g ps ≡ vs → flat_map g (qs ++ ps) ≡ us ++ vs
  two qs ps us vs h k = flat_append g qs ps ∙ (λ i. h i ++ k i)

  three : (qs ps rs : List Lval) (us vs ws : List A) → flat_map g qs ≡ us → flat_map g ps ≡ vs → flat_map g rs ≡ ws → flat_map g (qs ++ (ps ++ rs)) ≡ us ++ vs ++ ws
  three qs ps rs us vs ws h k m = two qs (ps ++ rs) us (vs ++ ws) h (two ps rs vs ws k m) ∙ sym (append_assoc us vs ws)

mutual
  whole_is : (a : Expr) → flat_map whole_names (reads_of a) ≡ whole_in a
  whole_is (e.Number n) = refl
  whole_is (e.Name x) = refl
  whole_is (e.Select' x h (more_of-Expr a end_of-Expr)) = whole_is a
  whole_is (e.Part' x span h (more_of-Expr a end_of-Expr) g (more_of-Expr b end_of-Expr)) =
      ap (λ xs. x.text ∷ xs) (two whole_names (reads_of a) (reads_of b) (whole_in a) (whole_in b) (whole_is a) (whole_is b))
  whole_is (e.ConstantSelect' k h (more_of-Expr a end_of-Expr)) = whole_is a
  whole_is (e.ConstantPart' k span h (more_of-Expr a end_of-Expr) g (more_of-Expr b end_of-Expr)) =
      two whole_names (reads_of a) (reads_of b) (whole_in a) (whole_in b) (whole_is a) (whole_is b)
  whole_is (e.Cast' cast h (more_of-Expr a end_of-Expr)) = whole_is a
  whole_is (e.Paren' h (more_of-Expr a end_of-Expr)) = whole_is a
  whole_is (e.Concat' h row) = row_whole_is row
  whole_is (e.Repeat' h (more_of-Expr a end_of-Expr) g row) =
      two whole_names (reads_of a) (row_reads row) (whole_in a) (row_whole_in row) (whole_is a) (row_whole_is row)
  whole_is (e.Unary' op h (more_of-Expr a end_of-Expr)) = whole_is a
  whole_is (e.Binary' op h (more_of-Expr a end_of-Expr) g (more_of-Expr b end_of-Expr)) =
      two whole_names (reads_of a) (reads_of b) (whole_in a) (whole_in b) (whole_is a) (whole_is b)
  whole_is (e.Choice' h (more_of-Expr c end_of-Expr) g (more_of-Expr a end_of-Expr) i (more_of-Expr b end_of-Expr)) =
      three whole_names (reads_of c) (reads_of a) (reads_of b) (whole_in c) (whole_in a) (whole_in b) (whole_is c) (whole_is a) (whole_is b)

  row_whole_is : {m : _} (row : Row_of-Expr m) → flat_map whole_names (row_reads row) ≡ row_whole_in row
  row_whole_is end_of-Expr = refl
  row_whole_is (more_of-Expr a rest) = two whole_names (reads_of a) (row_reads rest) (whole_in a) (row_whole_in rest) (whole_is a) (row_whole_is rest)

mutual
  pub reads_names : (a : Expr) → flat_map left_names (reads_of a) ≡ names_in a
  reads_names (e.Number n) = refl
  reads_names (e.Name x) = refl
  reads_names (e.Select' x h (more_of-Expr a end_of-Expr)) = ap (λ xs. x.text ∷ xs) (reads_names a)
  reads_names (e.Part' x span h (more_of-Expr a end_of-Expr) g (more_of-Expr b end_of-Expr)) =
      ap (λ xs. x.text ∷ xs) (two left_names (reads_of a) (reads_of b) (names_in a) (names_in b) (reads_names a) (reads_names b))
  reads_names (e.ConstantSelect' k h (more_of-Expr a end_of-Expr)) = reads_names a
  reads_names (e.ConstantPart' k span h (more_of-Expr a end_of-Expr) g (more_of-Expr b end_of-Expr)) =
      two left_names (reads_of a) (reads_of b) (names_in a) (names_in b) (reads_names a) (reads_names b)
  reads_names (e.Cast' cast h (more_of-Expr a end_of-Expr)) = reads_names a
  reads_names (e.Paren' h (more_of-Expr a end_of-Expr)) = reads_names a
  reads_names (e.Concat' h row) = row_reads_names row
  reads_names (e.Repeat' h (more_of-Expr a end_of-Expr) g row) =
      two left_names (reads_of a) (row_reads row) (names_in a) (row_names_in row) (reads_names a) (row_reads_names row)
  reads_names (e.Unary' op h (more_of-Expr a end_of-Expr)) = reads_names a
  reads_names (e.Binary' op h (more_of-Expr a end_of-Expr) g (more_of-Expr b end_of-Expr)) =
      two left_names (reads_of a) (reads_of b) (names_in a) (names_in b) (reads_names a) (reads_names b)
  reads_names (e.Choice' h (more_of-Expr c end_of-Expr) g (more_of-Expr a end_of-Expr) i (more_of-Expr b end_of-Expr)) =
      three left_names (reads_of c) (reads_of a) (reads_of b) (names_in c) (names_in a) (names_in b) (reads_names c) (reads_names a) (reads_names b)

  row_reads_names : {m : _} (row : Row_of-Expr m) → flat_map left_names (row_reads row) ≡ row_names_in row
  row_reads_names end_of-Expr = refl
  row_reads_names (more_of-Expr a rest) = two left_names (reads_of a) (row_reads rest) (names_in a) (row_names_in rest) (reads_names a) (row_reads_names rest)

mutual
  whole_left_is : (q : Lval) → flat_map whole_names (parts_of q) ≡ whole_lefts q
  whole_left_is (l.Name x) = refl
  whole_left_is (l.Select x a) = refl
  whole_left_is (l.Part x span a b) = refl
  whole_left_is (l.Concat' h row) = row_whole_left_is row

  row_whole_left_is : {m : _} (row : Row_of-Lval m) → flat_map whole_names (row_parts_of row) ≡ row_whole_lefts row
  row_whole_left_is end_of-Lval = refl
  row_whole_left_is (more_of-Lval q rest) =
      two whole_names (parts_of q) (row_parts_of rest) (whole_lefts q) (row_whole_lefts rest) (whole_left_is q) (row_whole_left_is rest)

mutual
  indexed_is : (a : Expr) → flat_map indexed_names (reads_of a) ≡ indexed_in a
  indexed_is (e.Number n) = refl
  indexed_is (e.Name x) = refl
  indexed_is (e.Select' x h (more_of-Expr a end_of-Expr)) = ap (λ us. record { name = x.text; index = a } ∷ us) (indexed_is a)
  indexed_is (e.Part' x span h (more_of-Expr a end_of-Expr) g (more_of-Expr b end_of-Expr)) =
      two indexed_names (reads_of a) (reads_of b) (indexed_in a) (indexed_in b) (indexed_is a) (indexed_is b)
  indexed_is (e.ConstantSelect' k h (more_of-Expr a end_of-Expr)) = indexed_is a
  indexed_is (e.ConstantPart' k span h (more_of-Expr a end_of-Expr) g (more_of-Expr b end_of-Expr)) =
      two indexed_names (reads_of a) (reads_of b) (indexed_in a) (indexed_in b) (indexed_is a) (indexed_is b)
  indexed_is (e.Cast' cast h (more_of-Expr a end_of-Expr)) = indexed_is a
  indexed_is (e.Paren' h (more_of-Expr a end_of-Expr)) = indexed_is a
  indexed_is (e.Concat' h row) = row_indexed_is row
  indexed_is (e.Repeat' h (more_of-Expr a end_of-Expr) g row) =
      two indexed_names (reads_of a) (row_reads row) (indexed_in a) (row_indexed_in row) (indexed_is a) (row_indexed_is row)
  indexed_is (e.Unary' op h (more_of-Expr a end_of-Expr)) = indexed_is a
  indexed_is (e.Binary' op h (more_of-Expr a end_of-Expr) g (more_of-Expr b end_of-Expr)) =
      two indexed_names (reads_of a) (reads_of b) (indexed_in a) (indexed_in b) (indexed_is a) (indexed_is b)
  indexed_is (e.Choice' h (more_of-Expr c end_of-Expr) g (more_of-Expr a end_of-Expr) i (more_of-Expr b end_of-Expr)) =
      three indexed_names (reads_of c) (reads_of a) (reads_of b) (indexed_in c) (indexed_in a) (indexed_in b) (indexed_is c) (indexed_is a) (indexed_is b)

  row_indexed_is : {m : _} (row : Row_of-Expr m) → flat_map indexed_names (row_reads row) ≡ row_indexed_in row
  row_indexed_is end_of-Expr = refl
  row_indexed_is (more_of-Expr a rest) =
      two indexed_names (reads_of a) (row_reads rest) (indexed_in a) (row_indexed_in rest) (indexed_is a) (row_indexed_is rest)

mutual
  indexed_left_is : (q : Lval) → flat_map indexed_names (parts_of q) ≡ indexed_lefts q
  indexed_left_is (l.Name x) = refl
  indexed_left_is (l.Select x a) = refl
  indexed_left_is (l.Part x span a b) = refl
  indexed_left_is (l.Concat' h row) = row_indexed_left_is row

  row_indexed_left_is : {m : _} (row : Row_of-Lval m) → flat_map indexed_names (row_parts_of row) ≡ row_indexed_lefts row
  row_indexed_left_is end_of-Lval = refl
  row_indexed_left_is (more_of-Lval q rest) =
      two indexed_names (parts_of q) (row_parts_of rest) (indexed_lefts q) (row_indexed_lefts rest) (indexed_left_is q) (row_indexed_left_is rest)

-- ---- the parts of all expressions and left sides

flat_twice : {A B C : Type 0} (g : B → List C) (f : A → List B) (h : A → List C) → ((x : A) → flat_map g (f x) ≡ h x) → (xs : List A) → flat_map g (flat_map f xs) ≡ flat_map h xs
flat_twice g f h same [] = refl
flat_twice g f h same (x ∷ xs) = flat_append g (f x) (flat_map f xs) ∙ (λ i. same x i ++ flat_twice g f h same xs i)

pub told_wholes : (f : Flat) → flat_map whole_names (told f) ≡ flat_map whole_in (exprs_of f) ++ flat_map whole_lefts (lefts_of f)
told_wholes f =
    flat_append whole_names (flat_map reads_of (exprs_of f)) (flat_map parts_of (lefts_of f))
    ∙ (λ i. flat_twice whole_names reads_of whole_in whole_is (exprs_of f) i ++ flat_twice whole_names parts_of whole_lefts whole_left_is (lefts_of f) i)

pub told_indexed : (f : Flat) → flat_map indexed_names (told f) ≡ flat_map indexed_in (exprs_of f) ++ flat_map indexed_lefts (lefts_of f)
told_indexed f =
    flat_append indexed_names (flat_map reads_of (exprs_of f)) (flat_map parts_of (lefts_of f))
    ∙ (λ i. flat_twice indexed_names reads_of indexed_in indexed_is (exprs_of f) i ++ flat_twice indexed_names parts_of indexed_lefts indexed_left_is (lefts_of f) i)
