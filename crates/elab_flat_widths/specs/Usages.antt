-- What statements do with expressions, in the order of their texts (IEEE 1364-2005, sections 9.2, 9.4 and 9.5).
use Rattle.std.specs.Prelude.{List, [], ◌∷◌, ◌++◌}
use Rattle.vlog_tree.specs.declared.expr.Expr.{Expr}
use Rattle.vlog_tree.specs.declared.item.Assign.{Assign}
use Rattle.vlog_tree.specs.declared.stmt.CaseItem.{CaseItem}
use Rattle.vlog_tree.specs.declared.stmt.Stmt.{Stmt, Row_of-Stmt, end_of-Stmt, more_of-Stmt, Row_of-CaseItem, end_of-CaseItem, more_of-CaseItem}
use Rattle.vlog_tree.specs.declared.stmt.Stmt.TheVariants as s
use Rattle.vlog_tree_runs.specs.Places.{Place, Among}
use Rattle.vlog_tree_runs.specs.Blocks.{is_parameter, exprs_in}
use Rattle.elab_flat_faults.specs.Constants.{at_rest, alone, compared}
use Rattle.elab_flat_faults.specs.Texts.{Compared, all_labels_in}
use Rattle.elab_flat_widths.specs.declared.violation.Violation.{Violation}
use Rattle.elab_flat_widths.specs.declared.side.Side.TheVariants as d
use Rattle.elab_flat_widths.specs.Taken.{IsSound, AllSound, Breaks, SomeBreaks}
use Rattle.elab_flat_widths.specs.Stores.{NamesSignals, IsSoundStore, BreaksStore}

-- a condition stands alone, a case expression is compared with labels, or an expression is assigned
pub data Usage : Type 0 where
  Tests : Expr → Usage
  Compares : Compared → Usage
  Stores : Assign → Usage

abbrev pub item_labels : CaseItem → List Expr
item_labels i = exprs_in i.labels

abbrev mutual
  pub usages : Stmt → List Usage
  usages s.Empty = []
  usages (s.Block' n h row) = row_usages row
  usages (s.If' a h (more_of-Stmt x end_of-Stmt)) = Tests a ∷ usages x
  usages (s.IfElse' a h (more_of-Stmt x end_of-Stmt) g (more_of-Stmt y end_of-Stmt)) = Tests a ∷ (usages x ++ usages y)
  usages (s.Case' kind a h row) = Compares (record { value = a; labels = all_labels_in row }) ∷ case_usages row
  usages (s.Blocking left right) = Stores (record { left = left; right = right }) ∷ []
  usages (s.Nonblocking left right) = Stores (record { left = left; right = right }) ∷ []

  pub row_usages : {m : _} → Row_of-Stmt m → List Usage
  row_usages end_of-Stmt = []
  row_usages (more_of-Stmt a rest) = usages a ++ row_usages rest

  pub case_usages : {m : _} → Row_of-CaseItem m → List Usage
  case_usages end_of-CaseItem = []
  case_usages (more_of-CaseItem labels body rest) = usages body ++ case_usages rest

abbrev pub item_usages : CaseItem → List Usage
item_usages i = usages i.body

-- a use of an expression keeps the rules
abbrev pub IsSoundUsage : Place → Usage → Type 0
IsSoundUsage p (Tests a) = IsSound (is_parameter p) (at_rest p) (alone (at_rest p) a)
IsSoundUsage p (Compares c) = AllSound (is_parameter p) (at_rest p) (compared (at_rest p) c)
IsSoundUsage p (Stores a) = IsSoundStore d.Procedural p a

-- a use of an expression breaks a rule
abbrev pub BreaksUsage : Place → Usage → Violation → Type 0
BreaksUsage p (Tests a) w = Breaks (is_parameter p) (at_rest p) (alone (at_rest p) a) w
BreaksUsage p (Compares c) w = SomeBreaks (is_parameter p) (at_rest p) (compared (at_rest p) c) w
BreaksUsage p (Stores a) w = BreaksStore d.Procedural p a w

-- what is assigned are signals
abbrev pub UsesSignals : Place → Usage → Type 0
UsesSignals p (Tests a) = Unit {0}
UsesSignals p (Compares c) = Unit {0}
UsesSignals p (Stores a) = NamesSignals p a.left

-- ---- whole statements

abbrev pub BodyUsesSignals : Place → Stmt → Type 0
BodyUsesSignals p t = (u : Usage) → Among (usages t) u → UsesSignals p u

abbrev pub IsSoundBody : Place → Stmt → Type 0
IsSoundBody p t = (u : Usage) → Among (usages t) u → IsSoundUsage p u

abbrev pub BreaksBody : Place → Stmt → Violation → Type 0
BreaksBody p t w = (u : Usage) × Among (usages t) u × BreaksUsage p u w
