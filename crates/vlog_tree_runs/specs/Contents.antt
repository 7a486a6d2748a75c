-- What a module declares, in the order of its text (IEEE 1364-2005, sections 4.2, 4.9, 4.10, 6.1, 9.9 and 12.2, 12.3).
use Rattle.std.specs.Prelude.{Bool, true, false, ◌&&◌, List, [], ◌∷◌, ◌++◌, Option, Some, None, map, if◌then◌else◌}
use Rattle.std.specs.List.{flat_map, list_any}
use Rattle.std.specs.Str.{bytes_eq}
use Rattle.vlog_tree.specs.declared.expr.Expr.{Expr}
use Rattle.vlog_tree.specs.declared.item.Args.{Args}
use Rattle.vlog_tree.specs.declared.item.Assign.{Assign}
use Rattle.vlog_tree.specs.declared.item.Instance.{Instance}
use Rattle.vlog_tree.specs.declared.item.Item.{Item}
use Rattle.vlog_tree.specs.declared.item.Item.TheVariants as t
use Rattle.vlog_tree.specs.declared.item.Parameter.{Parameter}
use Rattle.vlog_tree.specs.declared.item.PortKind.{PortKind}
use Rattle.vlog_tree.specs.declared.item.PortKind.TheVariants as k
use Rattle.vlog_tree.specs.declared.item.Range.{Range}
use Rattle.vlog_tree.specs.declared.item.Register.{Register}
use Rattle.vlog_tree.specs.declared.item.Shape.{Shape}
use Rattle.vlog_tree.specs.declared.item.Wire.{Wire}
use Rattle.vlog_tree.specs.declared.module.HeaderParameter.{HeaderParameter}
use Rattle.vlog_tree.specs.declared.module.HeaderParameter.TheVariants as r
use Rattle.vlog_tree.specs.declared.module.HeaderPort.{HeaderPort}
use Rattle.vlog_tree.specs.declared.module.HeaderPort.TheVariants as h
use Rattle.vlog_tree.specs.declared.module.Module.{Module}
use Rattle.vlog_tree.specs.declared.module.Ports.{Ports}
use Rattle.vlog_tree.specs.declared.module.Ports.TheVariants as q
use Rattle.vlog_tree.specs.declared.stmt.Events.{Events}
use Rattle.vlog_tree.specs.declared.stmt.Events.TheVariants as v
use Rattle.vlog_tree.specs.declared.stmt.Lval.TheVariants as l
use Rattle.vlog_tree.specs.declared.stmt.Stmt.{Stmt}
use Rattle.vlog_tree_runs.specs.Places.{Name}

-- ---- parameters

-- a parameter: in the list of the header, in the body, or a local one
pub record Param : Type 0 where
  pub name : Name
  pub shape : Shape
  pub value : Expr
  pub in_header : Bool
  pub is_local : Bool

abbrev pub param : Bool → Bool → Shape → Parameter → Param
param in_header is_local shape x = record { name = x.name; shape = shape; value = x.value; in_header = in_header; is_local = is_local }

-- neither a sign nor a range
abbrev pub bare : Shape
bare = record { signed = false; range = None }

-- a name alone repeats the sign and the range before it
abbrev pub header_params : Shape → List HeaderParameter → List Param
header_params shape [] = []
header_params shape (r.Group s x ∷ xs) = param true false s x ∷ header_params s xs
header_params shape (r.Again x ∷ xs) = param true false shape x ∷ header_params shape xs

abbrev pub listed_params : Option (List HeaderParameter) → List Param
listed_params None = []
listed_params (Some xs) = header_params bare xs

abbrev pub item_params : Item → List Param
item_params (t.Parameters shape xs) = map (param false false shape) xs
item_params (t.LocalParameters shape xs) = map (param false true shape) xs
item_params (t.Ports kind shape xs) = []
item_params (t.Wires shape xs) = []
item_params (t.Registers shape xs) = []
item_params (t.Assigns xs) = []
item_params (t.Always events body) = []
item_params (t.Instances name overrides xs) = []

abbrev pub params_in : Module → List Param
params_in m = listed_params m.parameters ++ flat_map item_params m.items

-- whether a module has a parameter list in its header
abbrev pub has_list : Option (List HeaderParameter) → Bool
has_list None = false
has_list (Some xs) = true

-- a parameter can be overridden: with a list in the header those of the list alone, and never a local one
abbrev pub is_open : Module → Param → Bool
is_open m p = if p.in_header then true else if p.is_local then false else if has_list m.parameters then false else true

-- ---- signals

-- one declaration of a signal
pub record Decl : Type 0 where
  pub name : Name
  pub shape : Shape
  pub input : Bool
  pub output : Bool
  pub reg : Bool
  pub words : Option Range

abbrev pub is_input : PortKind → Bool
is_input k.Input = true
is_input k.Output = false
is_input k.OutputReg = false

abbrev pub is_output : PortKind → Bool
is_output k.Input = false
is_output k.Output = true
is_output k.OutputReg = true

abbrev pub is_reg : PortKind → Bool
is_reg k.Input = false
is_reg k.Output = false
is_reg k.OutputReg = true

abbrev pub port_decl : PortKind → Shape → Name → Decl
port_decl kind shape x = record { name = x; shape = shape; input = is_input kind; output = is_output kind; reg = is_reg kind; words = None }

abbrev pub wire_decl : Shape → Wire → Decl
wire_decl shape x = record { name = x.name; shape = shape; input = false; output = false; reg = false; words = None }

abbrev pub reg_decl : Shape → Register → Decl
reg_decl shape x = record { name = x.name; shape = shape; input = false; output = false; reg = true; words = x.words }

-- a name alone repeats the direction, the sign and the range before it
abbrev pub header_decls : PortKind → Shape → List HeaderPort → List Decl
header_decls kind shape [] = []
header_decls kind shape (h.Group d s x ∷ xs) = port_decl d s x ∷ header_decls d s xs
header_decls kind shape (h.Again x ∷ xs) = port_decl kind shape x ∷ header_decls kind shape xs

abbrev pub ports_decls : Option Ports → List Decl
ports_decls None = []
ports_decls (Some (q.Names xs)) = []
ports_decls (Some (q.Groups xs)) = header_decls k.Input bare xs

abbrev pub item_decls : Item → List Decl
item_decls (t.Ports kind shape xs) = map (port_decl kind shape) xs
item_decls (t.Wires shape xs) = map (wire_decl shape) xs
item_decls (t.Registers shape xs) = map (reg_decl shape) xs
item_decls (t.Parameters shape xs) = []
item_decls (t.LocalParameters shape xs) = []
item_decls (t.Assigns xs) = []
item_decls (t.Always events body) = []
item_decls (t.Instances name overrides xs) = []

-- all declarations of signals; a port may be declared twice, once with its direction and once as `wire` or `reg`
abbrev pub decls_in : Module → List Decl
decls_in m = ports_decls m.ports ++ flat_map item_decls m.items

abbrev pub is_among : List Name → Name → Bool
is_among xs x = list_any (λ y. bytes_eq y x) xs

-- a declaration of this name that passes a test
abbrev pub declares : List Decl → (Decl → Bool) → Name → Bool
declares ds test x = list_any (λ d. bytes_eq d.name x && test d) ds

-- what all declarations of its name say together
abbrev pub joined : List Decl → Decl → Decl
joined all d = record d {
  input = declares all (λ e. e.input) d.name;
  output = declares all (λ e. e.output) d.name;
  reg = declares all (λ e. e.reg) d.name;
}

-- each name once, in the order of the first declarations
abbrev pub once : List Decl → List Name → List Decl → List Decl
once all done [] = []
once all done (d ∷ ds) = if is_among done d.name then once all done ds else joined all d ∷ once all (d.name ∷ done) ds

abbrev pub signals_in : Module → List Decl
signals_in m = once (decls_in m) [] (decls_in m)

-- the names of the ports in the order of the header
abbrev pub header_names : List HeaderPort → List Name
header_names [] = []
header_names (h.Group kind shape x ∷ xs) = x ∷ header_names xs
header_names (h.Again x ∷ xs) = x ∷ header_names xs

abbrev pub names_of_ports : Option Ports → List Name
names_of_ports None = []
names_of_ports (Some (q.Names xs)) = xs
names_of_ports (Some (q.Groups xs)) = header_names xs

abbrev pub port_names : Module → List Name
port_names m = names_of_ports m.ports

-- ---- assignments, blocks and instances

-- `wire x = a` is a declaration and a continuous assignment
abbrev pub assign_of : Name → Option Expr → List Assign
assign_of x None = []
assign_of x (Some a) = record { left = l.Name x; right = a } ∷ []

abbrev pub wire_assign : Wire → List Assign
wire_assign w = assign_of w.name w.value

abbrev pub item_assigns : Item → List Assign
item_assigns (t.Wires shape xs) = flat_map wire_assign xs
item_assigns (t.Assigns xs) = xs
item_assigns (t.Ports kind shape xs) = []
item_assigns (t.Registers shape xs) = []
item_assigns (t.Parameters shape xs) = []
item_assigns (t.LocalParameters shape xs) = []
item_assigns (t.Always events body) = []
item_assigns (t.Instances name overrides xs) = []

abbrev pub assigns_in : Module → List Assign
assigns_in m = flat_map item_assigns m.items

pub record Block : Type 0 where
  pub events : Events
  pub body : Stmt

abbrev pub item_blocks : Item → List Block
item_blocks (t.Always events body) = record { events = events; body = body } ∷ []
item_blocks (t.Wires shape xs) = []
item_blocks (t.Assigns xs) = []
item_blocks (t.Ports kind shape xs) = []
item_blocks (t.Registers shape xs) = []
item_blocks (t.Parameters shape xs) = []
item_blocks (t.LocalParameters shape xs) = []
item_blocks (t.Instances name overrides xs) = []

abbrev pub blocks_in : Module → List Block
blocks_in m = flat_map item_blocks m.items

-- a block that waits for edges
abbrev pub is_clocked : Events → Bool
is_clocked v.All = false
is_clocked (v.Edges xs) = true
is_clocked (v.Names xs) = false

-- an instance: its name, its module's name, its overrides and its connections
pub record Inner : Type 0 where
  pub name : Name
  pub of_module : Name
  pub overrides : Option Args
  pub args : Option Args

abbrev pub inner_of : Name → Option Args → Instance → Inner
inner_of x overrides i = record { name = i.name; of_module = x; overrides = overrides; args = i.args }

abbrev pub item_instances : Item → List Inner
item_instances (t.Instances x overrides xs) = map (inner_of x overrides) xs
item_instances (t.Always events body) = []
item_instances (t.Wires shape xs) = []
item_instances (t.Assigns xs) = []
item_instances (t.Ports kind shape xs) = []
item_instances (t.Registers shape xs) = []
item_instances (t.Parameters shape xs) = []
item_instances (t.LocalParameters shape xs) = []

abbrev pub instances_in : Module → List Inner
instances_in m = flat_map item_instances m.items
