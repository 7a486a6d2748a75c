-- The names on the left of assignments, one part and one assignment after another.
use Rattle.std.proofs.Common.{◌≡◌, ℕ, zero, suc, ◌+◌, ◌<◌, true, ◌⊎◌, inl, inr, List, [], ◌∷◌, ◌++◌, map, length, drop, drop-cons, get_or, add-one, arith, Option, Some, Bor, refl, sym, ap, ◌∙◌, subst}
use Rattle.std.specs.List.{flat_map}
use Rattle.std.specs.Option.{option_copied, option_to_list}
use Rattle.std.specs.Str.{bytes_eq}
use Rattle.std.proofs.lemmas.Bool.{cases_Bool}
use Rattle.std.proofs.lemmas.Slice.Eq.{bytes_eq-Decides}
use Rattle.vlog_tree.specs.declared.stmt.Lval.{Lval, Row_of-Lval, end_of-Lval, more_of-Lval}
use Rattle.vlog_tree.specs.declared.stmt.Lval.TheVariants as l
use Rattle.vlog_tree.specs.declared.stmt.Stmt.{Stmt, Row_of-Stmt, end_of-Stmt, more_of-Stmt, Row_of-CaseItem, end_of-CaseItem, more_of-CaseItem}
use Rattle.vlog_tree.specs.declared.stmt.Stmt.TheVariants as s
use Rattle.vlog_tree.specs.declared.expr.Expr.{Expr}
use Rattle.vlog_tree_runs.specs.Places.{Name, Among}
use Rattle.vlog_tree_runs.specs.Blocks.{left_names, row_names, lefts, row_lefts, case_lefts, exprs_in}
use Rattle.vlog_tree_runs.specs.Contents.{is_among}
use Rattle.elab_flat_laws.proofs.Lists.{flat_append, flat_among, map_among}
use Rattle.elab_flat_faults.specs.Drivers.{parts_of, row_parts_of}
use Rattle.elab_flat_faults.specs.ElabStands.{blocking_lefts, row_blocking_lefts, case_blocking_lefts, nonblocking_lefts, row_nonblocking_lefts, case_nonblocking_lefts}
use Rattle.elab_flat_scopes.specs.Borrowed.{name_meant}
use Rattle.elab_flat_drivers.specs.declared.names.Form.{Form}
use Rattle.elab_flat_drivers.specs.declared.names.Form.TheVariants as m
use Rattle.elab_flat_drivers.specs.Pieces.{Action, Tests, actions, row_actions, case_actions}
use Rattle.elab_flat_drivers.specs.Names.{action_lefts, action_names, form_lefts}

-- ---- parts

mutual
  pub parts_names : (left : Lval) → flat_map left_names (parts_of left) ≡ left_names left
  parts_names (l.Name x) = refl
  parts_names (l.Select x a) = refl
  parts_names (l.Part x span a c) = refl
  parts_names (l.Concat' g row) = row_parts_names row

  row_parts_names : {n : _} (row : Row_of-Lval n) → flat_map left_names (row_parts_of row) ≡ row_names row
  row_parts_names end_of-Lval = refl
  row_parts_names (more_of-Lval a rest) =
      flat_append left_names (parts_of a) (row_parts_of rest) ∙ (λ i. parts_names a i ++ row_parts_names rest i)

-- ---- assignments of a form

tests_none : (form : Form) (as' : List Expr) → flat_map (action_lefts form) (map Tests as') ≡ []
tests_none form [] = refl
tests_none form (a ∷ as') = tests_none form as'

two : (form : Form) (xs ys : List Action) (us vs : List Lval) → flat_map (action_lefts form) xs ≡ us → flat_map (action_lefts form) ys ≡ vs → flat_map (action_lefts form) (xs ++ ys) ≡ us ++ vs
two form xs ys us vs e f = flat_append (action_lefts form) xs ys ∙ (λ i. e i ++ f i)

item : (form : Form) (as' : List Expr) (xs ys : List Action) (us vs : List Lval) → flat_map (action_lefts form) xs ≡ us → flat_map (action_lefts form) ys ≡ vs → flat_map (action_lefts form) ((map Tests as' ++ xs) ++ ys) ≡ us ++ vs
item form as' xs ys us vs e f = two form (map Tests as' ++ xs) ys us vs (two form (map Tests as') xs [] us (tests_none form as') e) f

mutual
  any_lefts : (t : Stmt) → flat_map (action_lefts m.Any) (actions t) ≡ lefts t
  any_lefts s.Empty = refl
  any_lefts (s.Block' n h row) = any_rows row
  any_lefts (s.If' a h (more_of-Stmt x end_of-Stmt)) = any_lefts x
  any_lefts (s.IfElse' a h (more_of-Stmt x end_of-Stmt) g (more_of-Stmt y end_of-Stmt)) = two m.Any (actions x) (actions y) (lefts x) (lefts y) (any_lefts x) (any_lefts y)
  any_lefts (s.Case' kind a h row) = any_items row
  any_lefts (s.Blocking left right) = refl
  any_lefts (s.Nonblocking left right) = refl

  any_rows : {n : _} (row : Row_of-Stmt n) → flat_map (action_lefts m.Any) (row_actions row) ≡ row_lefts row
  any_rows end_of-Stmt = refl
  any_rows (more_of-Stmt a rest) = two m.Any (actions a) (row_actions rest) (lefts a) (row_lefts rest) (any_lefts a) (any_rows rest)

  any_items : {n : _} (row : Row_of-CaseItem n) → flat_map (action_lefts m.Any) (case_actions row) ≡ case_lefts row
  any_items end_of-CaseItem = refl
  any_items (more_of-CaseItem labels body rest) = item m.Any (exprs_in labels) (actions body) (case_actions rest) (lefts body) (case_lefts rest) (any_lefts body) (any_items rest)

mutual
  blocking : (t : Stmt) → flat_map (action_lefts m.Blocking) (actions t) ≡ blocking_lefts t
  blocking s.Empty = refl
  blocking (s.Block' n h row) = blocking_rows row
  blocking (s.If' a h (more_of-Stmt x end_of-Stmt)) = blocking x
  blocking (s.IfElse' a h (more_of-Stmt x end_of-Stmt) g (more_of-Stmt y end_of-Stmt)) = two m.Blocking (actions x) (actions y) (blocking_lefts x) (blocking_lefts y) (blocking x) (blocking y)
  blocking (s.Case' kind a h row) = blocking_items row
  blocking (s.Blocking left right) = refl
  blocking (s.Nonblocking left right) = refl

  blocking_rows : {n : _} (row : Row_of-Stmt n) → flat_map (action_lefts m.Blocking) (row_actions row) ≡ row_blocking_lefts row
  blocking_rows end_of-Stmt = refl
  blocking_rows (more_of-Stmt a rest) = two m.Blocking (actions a) (row_actions rest) (blocking_lefts a) (row_blocking_lefts rest) (blocking a) (blocking_rows rest)

  blocking_items : {n : _} (row : Row_of-CaseItem n) → flat_map (action_lefts m.Blocking) (case_actions row) ≡ case_blocking_lefts row
  blocking_items end_of-CaseItem = refl
  blocking_items (more_of-CaseItem labels body rest) =
      item m.Blocking (exprs_in labels) (actions body) (case_actions rest) (blocking_lefts body) (case_blocking_lefts rest) (blocking body) (blocking_items rest)

mutual
  nonblocking : (t : Stmt) → flat_map (action_lefts m.Nonblocking) (actions t) ≡ nonblocking_lefts t
  nonblocking s.Empty = refl
  nonblocking (s.Block' n h row) = nonblocking_rows row
  nonblocking (s.If' a h (more_of-Stmt x end_of-Stmt)) = nonblocking x
  nonblocking (s.IfElse' a h (more_of-Stmt x end_of-Stmt) g (more_of-Stmt y end_of-Stmt)) =
      two m.Nonblocking (actions x) (actions y) (nonblocking_lefts x) (nonblocking_lefts y) (nonblocking x) (nonblocking y)
  nonblocking (s.Case' kind a h row) = nonblocking_items row
  nonblocking (s.Blocking left right) = refl
  nonblocking (s.Nonblocking left right) = refl

  nonblocking_rows : {n : _} (row : Row_of-Stmt n) → flat_map (action_lefts m.Nonblocking) (row_actions row) ≡ row_nonblocking_lefts row
  nonblocking_rows end_of-Stmt = refl
  nonblocking_rows (more_of-Stmt a rest) = two m.Nonblocking (actions a) (row_actions rest) (nonblocking_lefts a) (row_nonblocking_lefts rest) (nonblocking a) (nonblocking_rows rest)

  nonblocking_items : {n : _} (row : Row_of-CaseItem n) → flat_map (action_lefts m.Nonblocking) (case_actions row) ≡ case_nonblocking_lefts row
  nonblocking_items end_of-CaseItem = refl
  nonblocking_items (more_of-CaseItem labels body rest) =
      item m.Nonblocking (exprs_in labels) (actions body) (case_actions rest) (nonblocking_lefts body) (case_nonblocking_lefts rest) (nonblocking body) (nonblocking_items rest)

pub actions_lefts : (form : Form) (t : Stmt) → flat_map (action_lefts form) (actions t) ≡ form_lefts form t
actions_lefts m.Any t = any_lefts t
actions_lefts m.Blocking t = blocking t
actions_lefts m.Nonblocking t = nonblocking t

nested : (form : Form) (ds : List Action) → flat_map (action_names form) ds ≡ flat_map left_names (flat_map (action_lefts form) ds)
nested form [] = refl
nested form (d ∷ ds) = ap (λ z. action_names form d ++ z) (nested form ds) ∙ sym (flat_append left_names (action_lefts form d) (flat_map (action_lefts form) ds))

pub actions_names : (form : Form) (t : Stmt) → flat_map (action_names form) (actions t) ≡ flat_map left_names (form_lefts form t)
actions_names form t = nested form (actions t) ∙ ap (flat_map left_names) (actions_lefts form t)

-- ---- names among others

pub among_of : (xs : List Name) (x : Name) → is_among xs x ≡ true → Among xs x
among_of [] x h = cc
among_of (y ∷ ys) x h = elim (cases_Bool (bytes_eq y x)) [ inl e ↦ inl ((bytes_eq-Decides y x).0 e) | inr e ↦ inr (among_of ys x (rw e at h)) ]

pub of_among : (xs : List Name) (x : Name) → Among xs x → is_among xs x ≡ true
of_among [] x h = absurd h
of_among (y ∷ ys) x (inl e) = rw ((bytes_eq-Decides y x).1 e) refl
of_among (y ∷ ys) x (inr h) = elim (cases_Bool (bytes_eq y x)) [ inl e ↦ rw e refl | inr e ↦ rw e (of_among ys x h) ]

module _ (names : List (Bor Name)) (i : ℕ) (x : Bor Name) (lt : i < length names) (is : x ≡ get_or names i x) where
  cut : drop i names ≡ x ∷ drop (i + 1) names
  cut = rw add-one (drop-cons names i x lt ∙ ap (λ z. z ∷ drop (suc i) names) (sym is))

  pub here : Among (map name_meant (drop i names)) x.now
  here = subst (λ ns. Among (map name_meant ns) x.now) (sym cut) (inl refl)

  -- a name that is not the one at this place stands after it
  pub passed : (y : Name) → Among (map name_meant (drop i names)) y → (x.now ≡ y → ⊥) → Among (map name_meant (drop (i + 1) names)) y
  passed y h n = after (subst (λ ns. Among (map name_meant ns) y) cut h)
    where
      after : (x.now ≡ y) ⊎ Among (map name_meant (drop (i + 1) names)) y → Among (map name_meant (drop (i + 1) names)) y
      after (inl e) = absurd (n e)
      after (inr f) = f

pub dropped : (names : List (Bor Name)) (i : ℕ) (y : Name) → Among (map name_meant (drop i names)) y → Among (map name_meant names) y
dropped [] zero y h = h
dropped [] (suc i) y h = h
dropped (n ∷ ns) zero y h = h
dropped (n ∷ ns) (suc i) y h = inr (dropped ns i y h)

-- ---- what stands in a list that the code made

pub meant_at : {A B : Type 0} (f : A → B) (xs items : List A) (whole : List B) (i : ℕ) (x : A) → i < length xs → x ≡ get_or xs i x → xs ≡ items → map f items ≡ whole → Among whole (f x)
meant_at f xs items whole i x lt is e g = subst (λ z. Among z (f x)) g (subst (λ z. Among (map f z) (f x)) e (map_among f xs x (at xs i x lt is)))
  where
    at : {A : Type 0} (xs : List A) (i : ℕ) (x : A) → i < length xs → x ≡ get_or xs i x → Among xs x
    at [] i x lt is = absurd (omega arith)
    at (y ∷ ys) zero x lt is = inl (sym is)
    at (y ∷ ys) (suc i) x lt is = inr (at ys i x (omega arith) is)

pub action_left : (ds : List Action) (d : Action) (left : Lval) (t : Stmt) → Among ds d → ds ≡ actions t → action_lefts m.Any d ≡ left ∷ [] → Among (lefts t) left
action_left ds d left t a e g =
    subst (λ z. Among z left) (ap (flat_map (action_lefts m.Any)) e ∙ any_lefts t) (flat_among (action_lefts m.Any) ds d left a (subst (λ z. Among z left) (sym g) (inl refl)))

pub only_left : (o : Option (Bor Lval)) (left : Bor Lval) (xs : List Lval) → option_to_list (option_copied o) ≡ xs → o ≡ Some left → xs ≡ left.now ∷ []
only_left o left xs e g = sym e ∙ ap (λ z. option_to_list (option_copied z)) g
