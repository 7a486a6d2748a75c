-- What the statements of a block do (IEEE 1364-2005, sections 9.2, 9.4, 9.5, 9.8 and 11).
use Rattle.std.specs.Prelude.{ℕ, ◌≡◌, ℤ, ◌≤ℤ◌, ◌<ℤ◌, ◌-ℤ◌, ◌+ℤ◌, pos, max, nat_eq, ◌&&◌, Bool, true, false, List, [], ◌∷◌, ◌++◌, Option, Some, None, unwrap_or, ◌⊎◌, is_some, if◌then◌else◌, bit_or}
use Rattle.std.specs.List.{list_any}
use Rattle.std.specs.Option.{option_map}
use Rattle.std.specs.Str.{bytes_eq}
use Rattle.vlog_tree.specs.declared.expr.Expr.{Expr}
use Rattle.vlog_tree.specs.declared.expr.Expr.TheVariants as e
use Rattle.vlog_tree.specs.declared.stmt.CaseKind.{CaseKind}
use Rattle.vlog_tree.specs.declared.stmt.CaseKind.TheVariants as c
use Rattle.vlog_tree.specs.declared.stmt.Labels.{Labels}
use Rattle.vlog_tree.specs.declared.stmt.Labels.TheVariants as b
use Rattle.vlog_tree.specs.declared.stmt.Lval.{Lval, Row_of-Lval, end_of-Lval, more_of-Lval}
use Rattle.vlog_tree.specs.declared.stmt.Lval.TheVariants as l
use Rattle.vlog_tree.specs.declared.stmt.Stmt.{Stmt, Row_of-Stmt, end_of-Stmt, more_of-Stmt, Row_of-CaseItem, end_of-CaseItem, more_of-CaseItem}
use Rattle.vlog_tree.specs.declared.stmt.Stmt.TheVariants as s
use Rattle.vlog_tree.specs.declared.valuation.Entry.{Entry}
use Rattle.vlog_tree.specs.Valuation.{entry_at}
use Rattle.vlog_tree.specs.Value.{width_of, sign_of, value_of, own_value, operand_of, own_integer, part_width, part_low, NamesOnly}
use Rattle.vlog_tree_runs.specs.declared.flat.Signal.{Signal}
use Rattle.vlog_tree_runs.specs.Places.{Name, Cycle, Place, valuation, store}

-- ---- case statements

-- the greatest length of the labels, and whether all are signed
abbrev pub widest : List Entry → List Expr → ℕ
widest v [] = 0
widest v (a ∷ as') = max (width_of v a) (widest v as')

abbrev pub all_signed : List Entry → List Expr → Bool
all_signed v [] = true
all_signed v (a ∷ as') = sign_of v a && all_signed v as'

abbrev pub exprs_in : Labels → List Expr
exprs_in (b.Exprs as') = as'
exprs_in b.Default = []

abbrev pub is_default : Labels → Bool
is_default (b.Exprs as') = false
is_default b.Default = true

-- all labels of a case statement
abbrev pub labels_in : {m : _} → Row_of-CaseItem m → List Expr
labels_in end_of-CaseItem = []
labels_in (more_of-CaseItem labels body rest) = exprs_in labels ++ labels_in rest

-- the case expression and all labels are taken at the longest length, and as signed only if all are
abbrev pub case_width : List Entry → Expr → List Expr → ℕ
case_width v a labels = max (width_of v a) (widest v labels)

abbrev pub case_sign : List Entry → Expr → List Expr → Bool
case_sign v a labels = sign_of v a && all_signed v labels

-- the bits of a label that aren't compared
abbrev pub ignored : CaseKind → Expr → ℕ
ignored c.Casez (e.Number n) = n.wild
ignored kind a = 0

abbrev pub matches : CaseKind → List Entry → ℕ → Bool → Expr → Expr → Bool
matches kind v n signed a label = nat_eq (bit_or (value_of v a n signed) (ignored kind label)) (bit_or (value_of v label n signed) (ignored kind label))

abbrev pub any_matches : CaseKind → List Entry → ℕ → Bool → Expr → Labels → Bool
any_matches kind v n signed a labels = list_any (matches kind v n signed a) (exprs_in labels)

-- ---- statements

-- the cycle in which a statement's names are read: where assignments take effect at once, the one that the statements before it left
abbrev pub seen : Bool → Cycle → Cycle → Cycle
seen at_once c d = if at_once then d else c

abbrev pub is_false : Place → Cycle → Expr → Bool
is_false p c a = nat_eq (own_value (valuation p c) a) 0

-- `d` after a statement. Where its assignments take effect at once, names are read in `d`; else they are read in the cycle `c` before
-- the edge, and the assignments take effect in their order
abbrev mutual
  pub run : Bool → Place → Stmt → Cycle → Cycle → Cycle
  run at_once p s.Empty c d x = d x
  run at_once p (s.Block' n h row) c d x = run_row at_once p row c d x
  run at_once p (s.If' a h (more_of-Stmt body end_of-Stmt)) c d x = if is_false p (seen at_once c d) a then d x else run at_once p body c d x
  run at_once p (s.IfElse' a h (more_of-Stmt body end_of-Stmt) g (more_of-Stmt other end_of-Stmt)) c d x =
      if is_false p (seen at_once c d) a then run at_once p other c d x else run at_once p body c d x
  run at_once p (s.Case' kind a h row) c d x =
      let v = valuation p (seen at_once c d) in
      run_items at_once p (any_matches kind v (case_width v a (labels_in row)) (case_sign v a (labels_in row)) a) row c d (run_default at_once p row c d) x
  run at_once p (s.Blocking left right) c d x = store p (seen at_once c d) left right d x
  run at_once p (s.Nonblocking left right) c d x = store p (seen at_once c d) left right d x

  pub run_row : {m : _} → Bool → Place → Row_of-Stmt m → Cycle → Cycle → Cycle
  run_row at_once p end_of-Stmt c d x = d x
  run_row at_once p (more_of-Stmt a rest) c d x = run_row at_once p rest c (run at_once p a c d) x

  -- the first item with a label that matches, and what stands for `default` where none does
  pub run_items : {m : _} → Bool → Place → (Labels → Bool) → Row_of-CaseItem m → Cycle → Cycle → Cycle → Cycle
  run_items at_once p test end_of-CaseItem c d otherwise x = otherwise x
  run_items at_once p test (more_of-CaseItem labels body rest) c d otherwise x =
      if test labels then run at_once p body c d x else run_items at_once p test rest c d otherwise x

  pub run_default : {m : _} → Bool → Place → Row_of-CaseItem m → Cycle → Cycle → Cycle
  run_default at_once p end_of-CaseItem c d x = d x
  run_default at_once p (more_of-CaseItem labels body rest) c d x =
      if is_default labels then run at_once p body c d x else run_default at_once p rest c d x

-- ---- what statements assign

-- the left sides in a statement
abbrev mutual
  pub lefts : Stmt → List Lval
  lefts s.Empty = []
  lefts (s.Block' n h row) = row_lefts row
  lefts (s.If' a h (more_of-Stmt body end_of-Stmt)) = lefts body
  lefts (s.IfElse' a h (more_of-Stmt body end_of-Stmt) g (more_of-Stmt other end_of-Stmt)) = lefts body ++ lefts other
  lefts (s.Case' kind a h row) = case_lefts row
  lefts (s.Blocking left right) = left ∷ []
  lefts (s.Nonblocking left right) = left ∷ []

  pub row_lefts : {m : _} → Row_of-Stmt m → List Lval
  row_lefts end_of-Stmt = []
  row_lefts (more_of-Stmt a rest) = lefts a ++ row_lefts rest

  pub case_lefts : {m : _} → Row_of-CaseItem m → List Lval
  case_lefts end_of-CaseItem = []
  case_lefts (more_of-CaseItem labels body rest) = lefts body ++ case_lefts rest

-- the names in a left side, its indices apart
abbrev mutual
  pub left_names : Lval → List Name
  left_names (l.Name x) = x ∷ []
  left_names (l.Select x a) = x ∷ []
  left_names (l.Part x span a b) = x ∷ []
  left_names (l.Concat' h row) = row_names row

  pub row_names : {m : _} → Row_of-Lval m → List Name
  row_names end_of-Lval = []
  row_names (more_of-Lval a rest) = left_names a ++ row_names rest

-- whether a name is that of a parameter
abbrev pub is_parameter : Place → Name → Bool
is_parameter p x = is_some (entry_at p.params x 0)

-- a declared signal, and the number of its lowest bit
abbrev pub signal_at : List Signal → Name → Option Signal
signal_at [] x = None
signal_at (g ∷ gs) x = if bytes_eq g.name x then Some g else signal_at gs x

abbrev pub low_in : Place → Name → ℕ
low_in p x = unwrap_or (option_map (λ g. g.low) (signal_at p.signals x)) 0

-- the bit b, counted from the lowest one, is in a part-select
abbrev pub IsWithin : ℤ → ℕ → ℕ → Type 0
IsWithin low count b = (low ≤ℤ pos b) × (pos b <ℤ (low +ℤ pos count))

-- a left side drives bit b of a signal, counted from its lowest one. One whose numbers aren't constant drives all bits of its signal
abbrev mutual
  pub Drives : Place → Lval → Name → ℕ → Type 0
  Drives p (l.Name y) x b = y ≡ x
  Drives p (l.Select y a) x b = (y ≡ x) × (NamesOnly (is_parameter p) a → own_integer (operand_of p.params a) -ℤ pos (low_in p y) ≡ pos b)
  Drives p (l.Part y span a a') x b =
      (y ≡ x) × (NamesOnly (is_parameter p) a → NamesOnly (is_parameter p) a' →
      let i = own_integer (operand_of p.params a) in
      let j = own_integer (operand_of p.params a') in
      IsWithin (part_low span i j -ℤ pos (low_in p y)) (part_width span i j) b)
  Drives p (l.Concat' h row) x b = AnyDrives p row x b

  pub AnyDrives : {m : _} → Place → Row_of-Lval m → Name → ℕ → Type 0
  AnyDrives p end_of-Lval x b = ⊥
  AnyDrives p (more_of-Lval a rest) x b = Drives p a x b ⊎ AnyDrives p rest x b

-- a left side assigns to word j of a memory: one with a constant index to this word alone, any other one to each word
abbrev mutual
  pub Stores : Place → Lval → Name → ℕ → Type 0
  Stores p (l.Name y) x j = y ≡ x
  Stores p (l.Select y a) x j = (y ≡ x) × (NamesOnly (is_parameter p) a → own_value p.params a ≡ j)
  Stores p (l.Part y span a a') x j = y ≡ x
  Stores p (l.Concat' h row) x j = AnyStores p row x j

  pub AnyStores : {m : _} → Place → Row_of-Lval m → Name → ℕ → Type 0
  AnyStores p end_of-Lval x j = ⊥
  AnyStores p (more_of-Lval a rest) x j = Stores p a x j ⊎ AnyStores p rest x j
