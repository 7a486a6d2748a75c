-- The expressions and names in a module's text.
use Rattle.std.specs.Prelude.{List, [], ◌∷◌, ◌++◌, Option, Some, None, map}
use Rattle.std.specs.List.{flat_map}
use Rattle.vlog_tree.specs.declared.expr.Expr.{Expr, Row_of-Expr, end_of-Expr, more_of-Expr}
use Rattle.vlog_tree.specs.declared.expr.Expr.TheVariants as e
use Rattle.vlog_tree.specs.declared.item.Args.{Args}
use Rattle.vlog_tree.specs.declared.item.Args.TheVariants as g
use Rattle.vlog_tree.specs.declared.item.Assign.{Assign}
use Rattle.vlog_tree.specs.declared.item.Range.{Range}
use Rattle.vlog_tree.specs.declared.item.Connection.{Connection}
use Rattle.vlog_tree.specs.declared.module.Module.{Module}
use Rattle.vlog_tree.specs.declared.stmt.Events.{Events}
use Rattle.vlog_tree.specs.declared.stmt.Events.TheVariants as v
use Rattle.vlog_tree.specs.declared.stmt.Lval.{Lval, Row_of-Lval, end_of-Lval, more_of-Lval}
use Rattle.vlog_tree.specs.declared.stmt.Lval.TheVariants as l
use Rattle.vlog_tree.specs.declared.stmt.Stmt.{Stmt, Row_of-Stmt, end_of-Stmt, more_of-Stmt, Row_of-CaseItem, end_of-CaseItem, more_of-CaseItem}
use Rattle.vlog_tree.specs.declared.stmt.Stmt.TheVariants as s
use Rattle.vlog_tree_runs.specs.Places.{Name}
use Rattle.vlog_tree_runs.specs.Blocks.{exprs_in, lefts, left_names}
use Rattle.vlog_tree_runs.specs.Contents.{Param, params_in, Decl, decls_in, Block, blocks_in, assigns_in, Inner, instances_in}

-- the names in an expression
abbrev mutual
  pub names_in : Expr → List Name
  names_in (e.Number n) = []
  names_in (e.Name x) = x.text ∷ []
  names_in (e.Select' x h (more_of-Expr a end_of-Expr)) = x.text ∷ names_in a
  names_in (e.Part' x span h (more_of-Expr a end_of-Expr) g (more_of-Expr b end_of-Expr)) = x.text ∷ names_in a ++ names_in b
  names_in (e.ConstantSelect' k h (more_of-Expr a end_of-Expr)) = names_in a
  names_in (e.ConstantPart' k span h (more_of-Expr a end_of-Expr) g (more_of-Expr b end_of-Expr)) = names_in a ++ names_in b
  names_in (e.Cast' cast h (more_of-Expr a end_of-Expr)) = names_in a
  names_in (e.Paren' h (more_of-Expr a end_of-Expr)) = names_in a
  names_in (e.Concat' h row) = row_names_in row
  names_in (e.Repeat' h (more_of-Expr a end_of-Expr) g row) = names_in a ++ row_names_in row
  names_in (e.Unary' op h (more_of-Expr a end_of-Expr)) = names_in a
  names_in (e.Binary' op h (more_of-Expr a end_of-Expr) g (more_of-Expr b end_of-Expr)) = names_in a ++ names_in b
  names_in (e.Choice' h (more_of-Expr c end_of-Expr) g (more_of-Expr a end_of-Expr) i (more_of-Expr b end_of-Expr)) = names_in c ++ names_in a ++ names_in b

  pub row_names_in : {m : _} → Row_of-Expr m → List Name
  row_names_in end_of-Expr = []
  row_names_in (more_of-Expr a rest) = names_in a ++ row_names_in rest

-- the numbers of a left side
abbrev mutual
  pub numbers_in : Lval → List Expr
  numbers_in (l.Name x) = []
  numbers_in (l.Select x a) = a ∷ []
  numbers_in (l.Part x span a b) = a ∷ b ∷ []
  numbers_in (l.Concat' h row) = row_numbers_in row

  pub row_numbers_in : {m : _} → Row_of-Lval m → List Expr
  row_numbers_in end_of-Lval = []
  row_numbers_in (more_of-Lval a rest) = numbers_in a ++ row_numbers_in rest

-- the expressions that stand in a statement by themselves: conditions, case expressions, labels, and the numbers of left sides
abbrev mutual
  pub alone_in : Stmt → List Expr
  alone_in s.Empty = []
  alone_in (s.Block' n h row) = row_alone_in row
  alone_in (s.If' a h (more_of-Stmt x end_of-Stmt)) = a ∷ alone_in x
  alone_in (s.IfElse' a h (more_of-Stmt x end_of-Stmt) g (more_of-Stmt y end_of-Stmt)) = a ∷ alone_in x ++ alone_in y
  alone_in (s.Case' kind a h row) = case_alone_in row
  alone_in (s.Blocking left right) = numbers_in left
  alone_in (s.Nonblocking left right) = numbers_in left

  pub row_alone_in : {m : _} → Row_of-Stmt m → List Expr
  row_alone_in end_of-Stmt = []
  row_alone_in (more_of-Stmt a rest) = alone_in a ++ row_alone_in rest

  pub case_alone_in : {m : _} → Row_of-CaseItem m → List Expr
  case_alone_in end_of-CaseItem = []
  case_alone_in (more_of-CaseItem labels body rest) = alone_in body ++ case_alone_in rest

-- a case expression with all its labels, which have one length
pub record Compared : Type 0 where
  pub value : Expr
  pub labels : List Expr

abbrev mutual
  pub compared_in : Stmt → List Compared
  compared_in s.Empty = []
  compared_in (s.Block' n h row) = row_compared_in row
  compared_in (s.If' a h (more_of-Stmt x end_of-Stmt)) = compared_in x
  compared_in (s.IfElse' a h (more_of-Stmt x end_of-Stmt) g (more_of-Stmt y end_of-Stmt)) = compared_in x ++ compared_in y
  compared_in (s.Case' kind a h row) = record { value = a; labels = all_labels_in row } ∷ case_compared_in row
  compared_in (s.Blocking left right) = []
  compared_in (s.Nonblocking left right) = []

  pub row_compared_in : {m : _} → Row_of-Stmt m → List Compared
  row_compared_in end_of-Stmt = []
  row_compared_in (more_of-Stmt a rest) = compared_in a ++ row_compared_in rest

  pub case_compared_in : {m : _} → Row_of-CaseItem m → List Compared
  case_compared_in end_of-CaseItem = []
  case_compared_in (more_of-CaseItem labels body rest) = compared_in body ++ case_compared_in rest

  pub all_labels_in : {m : _} → Row_of-CaseItem m → List Expr
  all_labels_in end_of-CaseItem = []
  all_labels_in (more_of-CaseItem labels body rest) = exprs_in labels ++ all_labels_in rest

-- the assignments in a statement
abbrev mutual
  pub stores_in : Stmt → List Assign
  stores_in s.Empty = []
  stores_in (s.Block' n h row) = row_stores_in row
  stores_in (s.If' a h (more_of-Stmt x end_of-Stmt)) = stores_in x
  stores_in (s.IfElse' a h (more_of-Stmt x end_of-Stmt) g (more_of-Stmt y end_of-Stmt)) = stores_in x ++ stores_in y
  stores_in (s.Case' kind a h row) = case_stores_in row
  stores_in (s.Blocking left right) = record { left = left; right = right } ∷ []
  stores_in (s.Nonblocking left right) = record { left = left; right = right } ∷ []

  pub row_stores_in : {m : _} → Row_of-Stmt m → List Assign
  row_stores_in end_of-Stmt = []
  row_stores_in (more_of-Stmt a rest) = stores_in a ++ row_stores_in rest

  pub case_stores_in : {m : _} → Row_of-CaseItem m → List Assign
  case_stores_in end_of-CaseItem = []
  case_stores_in (more_of-CaseItem labels body rest) = stores_in body ++ case_stores_in rest

-- the expressions of arguments
abbrev pub expr_of : Option Expr → List Expr
expr_of None = []
expr_of (Some a) = a ∷ []

abbrev pub named_expr : Connection → List Expr
named_expr n = expr_of n.value

abbrev pub args_in : Option Args → List Expr
args_in None = []
args_in (Some (g.Exprs as')) = as'
args_in (Some (g.Named ns)) = flat_map named_expr ns

-- the names that arguments give something to, where they go by names
abbrev pub arg_names : Option Args → List Name
arg_names None = []
arg_names (Some (g.Exprs as')) = []
arg_names (Some (g.Named ns)) = map (λ n. n.port) ns

abbrev pub range_exprs : Option Range → List Expr
range_exprs None = []
range_exprs (Some r) = r.high ∷ r.low ∷ []

abbrev pub decl_exprs : Decl → List Expr
decl_exprs d = range_exprs d.shape.range ++ range_exprs d.words

abbrev pub param_exprs : Param → List Expr
param_exprs p = range_exprs p.shape.range ++ p.value ∷ []

abbrev pub assign_exprs : Assign → List Expr
assign_exprs a = numbers_in a.left ++ a.right ∷ []

abbrev pub compared_exprs : Compared → List Expr
compared_exprs c = c.value ∷ c.labels

abbrev pub block_exprs : Block → List Expr
block_exprs b = alone_in b.body ++ flat_map compared_exprs (compared_in b.body) ++ map (λ a. a.right) (stores_in b.body)

abbrev pub inner_exprs : Inner → List Expr
inner_exprs i = args_in i.overrides ++ args_in i.args

-- the expressions of a module's text outside its instances
abbrev pub own_exprs : Module → List Expr
own_exprs m =
    flat_map decl_exprs (decls_in m) ++ flat_map param_exprs (params_in m) ++ flat_map assign_exprs (assigns_in m) ++ flat_map block_exprs (blocks_in m)

-- all expressions of a module's text
abbrev pub all_exprs : Module → List Expr
all_exprs m =
    flat_map decl_exprs (decls_in m) ++ flat_map param_exprs (params_in m) ++ flat_map assign_exprs (assigns_in m) ++ flat_map block_exprs (blocks_in m)
    ++ flat_map inner_exprs (instances_in m)

-- the names that are assigned
abbrev pub assigned_in : Module → List Name
assigned_in m = flat_map (λ a. left_names a.left) (assigns_in m) ++ flat_map (λ b. flat_map left_names (lefts b.body)) (blocks_in m)

-- the names that blocks wait for
abbrev pub event_names : Events → List Name
event_names v.All = []
event_names (v.Edges xs) = map (λ x. x.name) xs
event_names (v.Names xs) = xs

abbrev pub waited_in : Module → List Name
waited_in m = flat_map (λ b. event_names b.events) (blocks_in m)
