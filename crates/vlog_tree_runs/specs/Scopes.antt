-- The instances of a list of modules from its top: each has a path, a module, and numbers for its parameters
-- (IEEE 1364-2005, sections 4.10, 12.1, 12.2, 12.3 and 12.5).
use Rattle.std.specs.Prelude.{ℕ, ◌≡◌, Bool, true, List, [], ◌∷◌, ◌++◌, Option, Some, None, if◌then◌else◌, map, filter, codes, pos, ◌+ℤ◌}
use Rattle.std.specs.List.{flat_map}
use Rattle.std.specs.Str.{bytes_eq}
use Rattle.vlog_tree.specs.declared.expr.Expr.{Expr, Row_of-Expr, end_of-Expr, more_of-Expr}
use Rattle.vlog_tree.specs.declared.expr.Expr.TheVariants as e
use Rattle.vlog_tree.specs.declared.expr.Span.TheVariants as w
use Rattle.vlog_tree.specs.declared.item.Args.{Args}
use Rattle.vlog_tree.specs.declared.item.Args.TheVariants as g
use Rattle.vlog_tree.specs.declared.item.Assign.{Assign}
use Rattle.vlog_tree.specs.declared.item.Connection.{Connection}
use Rattle.vlog_tree.specs.declared.item.Range.{Range}
use Rattle.vlog_tree.specs.declared.module.Module.{Module}
use Rattle.vlog_tree.specs.declared.stmt.Lval.{Lval}
use Rattle.vlog_tree.specs.declared.stmt.Lval.TheVariants as l
use Rattle.vlog_tree.specs.declared.valuation.Entry.{Entry}
use Rattle.vlog_tree.specs.Value.{natural, width_of, sign_of, own_integer, operand_of, part_width, assigned}
use Rattle.vlog_tree_runs.specs.declared.flat.Signal.{Signal}
use Rattle.vlog_tree_runs.specs.Places.{Name, Place, read}
use Rattle.vlog_tree_runs.specs.Contents.{Param, params_in, is_open, Decl, signals_in, port_names, assigns_in, Inner, instances_in}

-- ---- constants

-- a name that is given an expression: an override, or a connection
pub record Given : Type 0 where
  pub name : Name
  pub value : Expr

abbrev pub given_at : List Given → Name → Option Expr
given_at [] x = None
given_at (d ∷ ds) x = if bytes_eq d.name x then Some d.value else given_at ds x

-- those of a list by name that have an expression
abbrev pub given_of : Name → Option Expr → List Given
given_of x None = []
given_of x (Some a) = record { name = x; value = a } ∷ []

abbrev pub named_given : Connection → List Given
named_given n = given_of n.port n.value

-- names and expressions in one order
abbrev pub by_order : List Name → List Expr → List Given
by_order [] as' = []
by_order (x ∷ xs) [] = []
by_order (x ∷ xs) (a ∷ as') = record { name = x; value = a } ∷ by_order xs as'

-- what names in this order are given
abbrev pub given_to : List Name → Option Args → List Given
given_to xs None = []
given_to xs (Some (g.Exprs as')) = by_order xs as'
given_to xs (Some (g.Named ns)) = flat_map named_given ns

-- an instance's overrides, by the names of the parameters of its module that can be overridden
abbrev pub overriding : Module → Option Args → List Given
overriding m o = given_to (map (λ p. p.name) (filter (is_open m) (params_in m))) o

-- the length and the lowest bit that a range declares
abbrev pub range_width : List Entry → Range → ℕ
range_width v r = part_width w.Fixed (own_integer (operand_of v r.high)) (own_integer (operand_of v r.low))

abbrev pub width_in : Option Range → ℕ → List Entry → ℕ
width_in None n v = n
width_in (Some r) n v = range_width v r

abbrev pub lowest_in : Option Range → List Entry → ℕ
lowest_in None v = 0
lowest_in (Some r) v = natural (own_integer (operand_of v r.low))

-- a parameter without a range has the length of its value, and without `signed` and a range its sign
abbrev pub sign_in : Option Range → Bool → Bool → Bool
sign_in None declared own = if declared then true else own
sign_in (Some r) declared own = declared

-- a parameter that has the value of an expression over v, converted as by an assignment; its range is read over `done`
abbrev pub converted : Param → List Entry → Expr → List Entry → Entry
converted p v a done =
    let n = width_in p.shape.range (width_of v a) done in
    record {
      name = p.name;
      offset = 0;
      width = n;
      low = lowest_in p.shape.range done;
      signed = sign_in p.shape.range p.shape.signed (sign_of v a);
      depth = 0;
      value = assigned v a n;
    }

-- a parameter's entry: its override's, which names parameters of the outer module, or its own value's
abbrev pub param_entry : Bool → Param → Option Expr → List Entry → List Entry → Entry
param_entry can p None outer done = converted p done p.value done
param_entry can p (Some a) outer done = if can then converted p outer a done else converted p done p.value done

-- the parameters in the order of their declarations, each over those before it
abbrev pub params_from : Module → List Param → List Given → List Entry → List Entry → List Entry
params_from m [] ds outer done = done
params_from m (p ∷ ps) ds outer done = params_from m ps ds outer (done ++ param_entry (is_open m p) p (given_at ds p.name) outer done ∷ [])

abbrev pub params_of : Module → List Given → List Entry → List Entry
params_of m ds outer = params_from m (params_in m) ds outer []

-- ---- instances

-- one instance, the top among them
pub record Scope : Type 0 where
  pub prefix : Name
  pub module' : Module
  pub params : List Entry

abbrev pub module_at : List Module → Name → Option Module
module_at [] x = None
module_at (m ∷ ms) x = if bytes_eq m.name x then Some m else module_at ms x

abbrev pub instance_at : List Inner → Name → Option Inner
instance_at [] x = None
instance_at (i ∷ rest) x = if bytes_eq i.name x then Some i else instance_at rest x

-- what stands in front of an instance's names
abbrev pub inner_prefix : Name → Name → Name
inner_prefix pre x = pre ++ x ++ codes "."

abbrev pub scope_in : Scope → Inner → Option Module → Option Scope
scope_in s i None = None
scope_in s i (Some m) =
    Some (record { prefix = inner_prefix s.prefix i.name; module' = m; params = params_of m (overriding m i.overrides) s.params })

-- an instance of a scope
abbrev pub child : List Module → Scope → Inner → Option Scope
child ms s i = scope_in s i (module_at ms i.of_module)

abbrev pub child_by : List Module → Scope → Option Inner → Option Scope
child_by ms s None = None
child_by ms s (Some i) = child ms s i

abbrev pub step : List Module → Option Scope → Name → Option Scope
step ms None x = None
step ms (Some s) x = child_by ms s (instance_at (instances_in s.module') x)

-- the scope at the end of a path of instance names
abbrev pub scope_from : List Module → Option Scope → List Name → Option Scope
scope_from ms o [] = o
scope_from ms o (x ∷ path) = scope_from ms (step ms o x) path

abbrev pub top_scope : Option Module → Option Scope
top_scope None = None
top_scope (Some m) = Some (record { prefix = []; module' = m; params = params_of m [] [] })

abbrev pub scope_at : List Module → Name → List Name → Option Scope
scope_at ms top path = scope_from ms (top_scope (module_at ms top)) path

-- the scopes are what stands at the paths
abbrev pub IsScope : List Module → Name → Scope → Type 0
IsScope ms top s = (path : List Name) × (scope_at ms top path ≡ Some s)

-- a declared signal, its ranges read over the parameters; a memory `[0:n]` has n + 1 words
abbrev pub depth_in : Option Range → List Entry → ℕ
depth_in None v = 0
depth_in (Some r) v = natural (own_integer (operand_of v r.low) +ℤ pos 1)

abbrev pub signal_of : List Entry → Decl → Signal
signal_of v d = record {
  name = d.name;
  width = width_in d.shape.range 1 v;
  low = lowest_in d.shape.range v;
  signed = d.shape.signed;
  reg = d.reg;
  depth = depth_in d.words v;
}

abbrev pub place_of : Scope → Place
place_of s = record { prefix = s.prefix; signals = map (signal_of s.params) (signals_in s.module'); params = s.params }

-- ---- connections

-- a continuous assignment or a port connection: the left side stands in one text, the right side in one that may be another
pub record Link : Type 0 where
  pub into : Place
  pub left : Lval
  pub from : Place
  pub right : Expr

-- an expression as a left side; one that can't be assigned has no bits
abbrev mutual
  pub left_of : Expr → Lval
  left_of (e.Name x) = l.Name x.text
  left_of (e.Select' x h (more_of-Expr a end_of-Expr)) = l.Select x.text a
  left_of (e.Part' x span h (more_of-Expr a end_of-Expr) q (more_of-Expr b end_of-Expr)) = l.Part x.text span a b
  left_of (e.Concat' h row) = l.Concat (row_left row)
  left_of a = l.Concat []

  pub row_left : {m : _} → Row_of-Expr m → List Lval
  row_left end_of-Expr = []
  row_left (more_of-Expr a rest) = left_of a ∷ row_left rest

abbrev pub decl_at : List Decl → Name → Option Decl
decl_at [] x = None
decl_at (d ∷ ds) x = if bytes_eq d.name x then Some d else decl_at ds x

-- what is connected to an input is assigned to it, and an output is assigned to what it is connected to
abbrev pub port_link : Place → Place → Given → Decl → List Link
port_link outer inner d port =
    if port.input then record { into = inner; left = l.Name d.name; from = outer; right = d.value } ∷ []
    else if port.output then record { into = outer; left = left_of d.value; from = inner; right = e.Name (read d.name) } ∷ []
    else []

abbrev pub port_links : Place → Place → Given → Option Decl → List Link
port_links outer inner d None = []
port_links outer inner d (Some port) = port_link outer inner d port

abbrev pub connection : Place → Scope → Given → List Link
connection outer t d = port_links outer (place_of t) d (decl_at (signals_in t.module') d.name)

abbrev pub connections : Place → Inner → Option Scope → List Link
connections outer i None = []
connections outer i (Some t) = flat_map (connection outer t) (given_to (port_names t.module') i.args)

abbrev pub own_link : Place → Assign → Link
own_link p a = record { into = p; left = a.left; from = p; right = a.right }

abbrev pub inner_links : List Module → Scope → Inner → List Link
inner_links ms s i = connections (place_of s) i (child ms s i)

-- the continuous assignments of a scope, and the connections of its instances
abbrev pub links_of : List Module → Scope → List Link
links_of ms s = map (own_link (place_of s)) (assigns_in s.module') ++ flat_map (inner_links ms s) (instances_in s.module')
