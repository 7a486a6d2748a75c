-- Which names a text uses.
use Rattle.std.specs.Prelude.{◌≡◌, ◌^◌, ◌<◌, nat_eq, Bool, true, false, ◌||◌, List, [], ◌∷◌, is_some, map, if◌then◌else◌}
use Rattle.std.specs.List.{flat_map}
use Rattle.vlog_tree.specs.declared.expr.Expr.{Expr, Row_of-Expr, end_of-Expr, more_of-Expr}
use Rattle.vlog_tree.specs.declared.expr.Expr.TheVariants as e
use Rattle.vlog_tree.specs.declared.stmt.Lval.{Lval, Row_of-Lval, end_of-Lval, more_of-Lval}
use Rattle.vlog_tree.specs.declared.stmt.Lval.TheVariants as l
use Rattle.vlog_tree.specs.declared.stmt.Stmt.{Stmt, Row_of-Stmt, end_of-Stmt, more_of-Stmt, Row_of-CaseItem, end_of-CaseItem, more_of-CaseItem}
use Rattle.vlog_tree.specs.declared.stmt.Stmt.TheVariants as s
use Rattle.vlog_tree.specs.Value.{NamesOnly}
use Rattle.vlog_tree_runs.specs.declared.flat.Signal.{Signal}
use Rattle.vlog_tree.specs.declared.valuation.Entry.{Entry}
use Rattle.vlog_tree_runs.specs.Places.{Name, Place, words_from}
use Rattle.vlog_tree_runs.specs.Blocks.{is_parameter, signal_at, exprs_in}

abbrev pub has_signal : List Signal → Name → Bool
has_signal gs x = is_some (signal_at gs x)

-- a parameter or a signal
abbrev pub is_declared : Place → Name → Bool
is_declared p x = is_parameter p x || has_signal p.signals x

-- a signal, and no parameter
abbrev pub IsSignal : Place → Name → Type 0
IsSignal p x = (is_parameter p x ≡ false) × (has_signal p.signals x ≡ true)

-- each name of an expression is read in the present row, as in every module text
abbrev mutual
  pub IsPresent : Expr → Type 0
  IsPresent (e.Number n) = Unit {0}
  IsPresent (e.Name x) = x.offset ≡ 0
  IsPresent (e.Select' x h (more_of-Expr a end_of-Expr)) = (x.offset ≡ 0) × IsPresent a
  IsPresent (e.Part' x span h (more_of-Expr a end_of-Expr) g (more_of-Expr b end_of-Expr)) = (x.offset ≡ 0) × IsPresent a × IsPresent b
  IsPresent (e.ConstantSelect' k h (more_of-Expr a end_of-Expr)) = IsPresent a
  IsPresent (e.ConstantPart' k span h (more_of-Expr a end_of-Expr) g (more_of-Expr b end_of-Expr)) = IsPresent a × IsPresent b
  IsPresent (e.Cast' cast h (more_of-Expr a end_of-Expr)) = IsPresent a
  IsPresent (e.Paren' h (more_of-Expr a end_of-Expr)) = IsPresent a
  IsPresent (e.Concat' h row) = AllPresent row
  IsPresent (e.Repeat' h (more_of-Expr a end_of-Expr) g row) = IsPresent a × AllPresent row
  IsPresent (e.Unary' op h (more_of-Expr a end_of-Expr)) = IsPresent a
  IsPresent (e.Binary' op h (more_of-Expr a end_of-Expr) g (more_of-Expr b end_of-Expr)) = IsPresent a × IsPresent b
  IsPresent (e.Choice' h (more_of-Expr c end_of-Expr) g (more_of-Expr a end_of-Expr) i (more_of-Expr b end_of-Expr)) = IsPresent c × IsPresent a × IsPresent b

  pub AllPresent : {m : _} → Row_of-Expr m → Type 0
  AllPresent end_of-Expr = Unit {0}
  AllPresent (more_of-Expr a rest) = IsPresent a × AllPresent rest

-- each name of an expression is declared
abbrev pub UsesDeclared : Place → Expr → Type 0
UsesDeclared p a = NamesOnly (is_declared p) a × IsPresent a

abbrev pub AllUseDeclared : Place → List Expr → Type 0
AllUseDeclared p [] = Unit {0}
AllUseDeclared p (a ∷ as') = UsesDeclared p a × AllUseDeclared p as'

-- a left side names signals, and its numbers are over declared names
abbrev mutual
  pub AssignsSignals : Place → Lval → Type 0
  AssignsSignals p (l.Name x) = IsSignal p x
  AssignsSignals p (l.Select x a) = IsSignal p x × UsesDeclared p a
  AssignsSignals p (l.Part x span a b) = IsSignal p x × (UsesDeclared p a) × (UsesDeclared p b)
  AssignsSignals p (l.Concat' h row) = AllAssignSignals p row

  pub AllAssignSignals : {m : _} → Place → Row_of-Lval m → Type 0
  AllAssignSignals p end_of-Lval = Unit {0}
  AllAssignSignals p (more_of-Lval a rest) = AssignsSignals p a × AllAssignSignals p rest

-- so does a statement
abbrev mutual
  pub IsDeclared : Place → Stmt → Type 0
  IsDeclared p s.Empty = Unit {0}
  IsDeclared p (s.Block' n h row) = AreDeclared p row
  IsDeclared p (s.If' a h (more_of-Stmt x end_of-Stmt)) = UsesDeclared p a × IsDeclared p x
  IsDeclared p (s.IfElse' a h (more_of-Stmt x end_of-Stmt) g (more_of-Stmt y end_of-Stmt)) = UsesDeclared p a × IsDeclared p x × IsDeclared p y
  IsDeclared p (s.Case' kind a h row) = UsesDeclared p a × AreItemsDeclared p row
  IsDeclared p (s.Blocking left right) = AssignsSignals p left × UsesDeclared p right
  IsDeclared p (s.Nonblocking left right) = AssignsSignals p left × UsesDeclared p right

  pub AreDeclared : {m : _} → Place → Row_of-Stmt m → Type 0
  AreDeclared p end_of-Stmt = Unit {0}
  AreDeclared p (more_of-Stmt a rest) = IsDeclared p a × AreDeclared p rest

  pub AreItemsDeclared : {m : _} → Place → Row_of-CaseItem m → Type 0
  AreItemsDeclared p end_of-CaseItem = Unit {0}
  AreItemsDeclared p (more_of-CaseItem labels body rest) = AllUseDeclared p (exprs_in labels) × IsDeclared p body × AreItemsDeclared p rest

-- the names of a signal and of a memory's words
abbrev pub names_of : Signal → List Name
names_of g = if nat_eq g.depth 0 then g.name ∷ [] else g.name ∷ map (λ w. w.name) (words_from g 0 g.depth)

abbrev pub known : List Signal → List Name
known gs = flat_map names_of gs

-- parameters stand for numbers of their lengths
abbrev pub AreConstants : List Entry → Type 0
AreConstants [] = Unit {0}
AreConstants (e ∷ es) = (e.depth ≡ 0) × (e.value < 2 ^ e.width) × AreConstants es

-- a dot (46) in a name
abbrev pub has_dot : Name → Bool
has_dot [] = false
has_dot (n ∷ ns) = nat_eq n 46 || has_dot ns
