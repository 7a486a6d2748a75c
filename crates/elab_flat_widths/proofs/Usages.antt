-- The expressions, the assignments and the left sides of a statement are those of its usages.
use Rattle.std.proofs.Common.{◌≡◌, List, [], ◌∷◌, ◌++◌, map, refl, sym, ap, ◌∙◌, append-nil}
use Rattle.std.specs.List.{flat_map}
use Rattle.vlog_tree.specs.declared.expr.Expr.{Expr}
use Rattle.vlog_tree.specs.declared.item.Assign.{Assign}
use Rattle.vlog_tree.specs.declared.stmt.Stmt.{Stmt, Row_of-Stmt, end_of-Stmt, more_of-Stmt, Row_of-CaseItem, end_of-CaseItem, more_of-CaseItem}
use Rattle.vlog_tree.specs.declared.stmt.Stmt.TheVariants as s
use Rattle.vlog_tree_runs.specs.Blocks.{lefts, row_lefts, case_lefts}
use Rattle.elab_flat_laws.proofs.Lists.{flat_append, map_append}
use Rattle.elab_flat_faults.specs.Texts.{Compared, numbers_in, alone_in, row_alone_in, case_alone_in, compared_in, row_compared_in, case_compared_in, all_labels_in, stores_in, row_stores_in, case_stores_in}
use Rattle.elab_flat_widths.specs.Usages.{Usage, Tests, Compares, Stores, usages, row_usages, case_usages}

-- the expressions that stand alone, those that are compared, and the assignments
abbrev pub alones_of : Usage → List Expr
alones_of (Tests a) = a ∷ []
alones_of (Compares c) = []
alones_of (Stores a) = numbers_in a.left

abbrev pub compares_of : Usage → List Compared
compares_of (Tests a) = []
compares_of (Compares c) = c ∷ []
compares_of (Stores a) = []

abbrev pub stores_of : Usage → List Assign
stores_of (Tests a) = []
stores_of (Compares c) = []
stores_of (Stores a) = a ∷ []

both : {Y : Type 0} (f : Usage → List Y) (xs ys : List Usage) (as' bs : List Y) → as' ≡ flat_map f xs → bs ≡ flat_map f ys → as' ++ bs ≡ flat_map f (xs ++ ys)
both f xs ys as' bs e g = (λ i. e i ++ g i) ∙ sym (flat_append f xs ys)

mutual
  pub alone_are : (t : Stmt) → alone_in t ≡ flat_map alones_of (usages t)
  alone_are s.Empty = refl
  alone_are (s.Block' n g row) = row_alone_are row
  alone_are (s.If' a g (more_of-Stmt x end_of-Stmt)) = ap (λ z. a ∷ z) (alone_are x)
  alone_are (s.IfElse' a g (more_of-Stmt x end_of-Stmt) i (more_of-Stmt y end_of-Stmt)) = ap (λ z. a ∷ z) (both alones_of (usages x) (usages y) (alone_in x) (alone_in y) (alone_are x) (alone_are y))
  alone_are (s.Case' kind a g row) = case_alone_are row
  alone_are (s.Blocking left right) = sym (append-nil (numbers_in left))
  alone_are (s.Nonblocking left right) = sym (append-nil (numbers_in left))

  row_alone_are : {m : _} (row : Row_of-Stmt m) → row_alone_in row ≡ flat_map alones_of (row_usages row)
  row_alone_are end_of-Stmt = refl
  row_alone_are (more_of-Stmt a rest) = both alones_of (usages a) (row_usages rest) (alone_in a) (row_alone_in rest) (alone_are a) (row_alone_are rest)

  case_alone_are : {m : _} (row : Row_of-CaseItem m) → case_alone_in row ≡ flat_map alones_of (case_usages row)
  case_alone_are end_of-CaseItem = refl
  case_alone_are (more_of-CaseItem labels body rest) = both alones_of (usages body) (case_usages rest) (alone_in body) (case_alone_in rest) (alone_are body) (case_alone_are rest)

mutual
  pub compared_are : (t : Stmt) → compared_in t ≡ flat_map compares_of (usages t)
  compared_are s.Empty = refl
  compared_are (s.Block' n g row) = row_compared_are row
  compared_are (s.If' a g (more_of-Stmt x end_of-Stmt)) = compared_are x
  compared_are (s.IfElse' a g (more_of-Stmt x end_of-Stmt) i (more_of-Stmt y end_of-Stmt)) = both compares_of (usages x) (usages y) (compared_in x) (compared_in y) (compared_are x) (compared_are y)
  compared_are (s.Case' kind a g row) = ap (λ z. record { value = a; labels = all_labels_in row } ∷ z) (case_compared_are row)
  compared_are (s.Blocking left right) = refl
  compared_are (s.Nonblocking left right) = refl

  row_compared_are : {m : _} (row : Row_of-Stmt m) → row_compared_in row ≡ flat_map compares_of (row_usages row)
  row_compared_are end_of-Stmt = refl
  row_compared_are (more_of-Stmt a rest) = both compares_of (usages a) (row_usages rest) (compared_in a) (row_compared_in rest) (compared_are a) (row_compared_are rest)

  case_compared_are : {m : _} (row : Row_of-CaseItem m) → case_compared_in row ≡ flat_map compares_of (case_usages row)
  case_compared_are end_of-CaseItem = refl
  case_compared_are (more_of-CaseItem labels body rest) = both compares_of (usages body) (case_usages rest) (compared_in body) (case_compared_in rest) (compared_are body) (case_compared_are rest)

mutual
  pub stores_are : (t : Stmt) → stores_in t ≡ flat_map stores_of (usages t)
  stores_are s.Empty = refl
  stores_are (s.Block' n g row) = row_stores_are row
  stores_are (s.If' a g (more_of-Stmt x end_of-Stmt)) = stores_are x
  stores_are (s.IfElse' a g (more_of-Stmt x end_of-Stmt) i (more_of-Stmt y end_of-Stmt)) = both stores_of (usages x) (usages y) (stores_in x) (stores_in y) (stores_are x) (stores_are y)
  stores_are (s.Case' kind a g row) = case_stores_are row
  stores_are (s.Blocking left right) = refl
  stores_are (s.Nonblocking left right) = refl

  row_stores_are : {m : _} (row : Row_of-Stmt m) → row_stores_in row ≡ flat_map stores_of (row_usages row)
  row_stores_are end_of-Stmt = refl
  row_stores_are (more_of-Stmt a rest) = both stores_of (usages a) (row_usages rest) (stores_in a) (row_stores_in rest) (stores_are a) (row_stores_are rest)

  case_stores_are : {m : _} (row : Row_of-CaseItem m) → case_stores_in row ≡ flat_map stores_of (case_usages row)
  case_stores_are end_of-CaseItem = refl
  case_stores_are (more_of-CaseItem labels body rest) = both stores_of (usages body) (case_usages rest) (stores_in body) (case_stores_in rest) (stores_are body) (case_stores_are rest)

-- the left sides are those of the assignments
mutual
  pub lefts_are : (t : Stmt) → lefts t ≡ map (λ (a : Assign). a.left) (stores_in t)
  lefts_are s.Empty = refl
  lefts_are (s.Block' n g row) = row_lefts_are row
  lefts_are (s.If' a g (more_of-Stmt x end_of-Stmt)) = lefts_are x
  lefts_are (s.IfElse' a g (more_of-Stmt x end_of-Stmt) i (more_of-Stmt y end_of-Stmt)) =
      (λ j. lefts_are x j ++ lefts_are y j) ∙ sym (map_append (λ (b : Assign). b.left) (stores_in x) (stores_in y))
  lefts_are (s.Case' kind a g row) = case_lefts_are row
  lefts_are (s.Blocking left right) = refl
  lefts_are (s.Nonblocking left right) = refl

  row_lefts_are : {m : _} (row : Row_of-Stmt m) → row_lefts row ≡ map (λ (a : Assign). a.left) (row_stores_in row)
  row_lefts_are end_of-Stmt = refl
  row_lefts_are (more_of-Stmt a rest) = (λ j. lefts_are a j ++ row_lefts_are rest j) ∙ sym (map_append (λ (b : Assign). b.left) (stores_in a) (row_stores_in rest))

  case_lefts_are : {m : _} (row : Row_of-CaseItem m) → case_lefts row ≡ map (λ (a : Assign). a.left) (case_stores_in row)
  case_lefts_are end_of-CaseItem = refl
  case_lefts_are (more_of-CaseItem labels body rest) = (λ j. lefts_are body j ++ case_lefts_are rest j) ∙ sym (map_append (λ (b : Assign). b.left) (stores_in body) (case_stores_in rest))
