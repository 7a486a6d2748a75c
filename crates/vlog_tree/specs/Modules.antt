-- Which items and modules a list of tokens spells (IEEE 1364-2005 annex A.1 to A.4), and how high they are.
use Rattle.std.specs.Prelude.{ℕ, ◌+◌, ◌<◌, ◌≡◌, ◌⊎◌, max, List, [], ◌∷◌, Option, Some, None, Bool, false, codes, length}
use Rattle.vlog_tree.specs.declared.token.Token.{Token}
use Rattle.vlog_tree.specs.declared.expr.Expr.{Expr}
use Rattle.vlog_tree.specs.Signs.{IsSign, IsWord}
use Rattle.vlog_tree.specs.Lists.{Maybe, Flag, Sequence, Separated, Comma, InParens, AfterHash, UpToEnd, highest, highest_of}
use Rattle.vlog_tree.specs.Spelling.{IsIdentifier, IsNamed, Spells, height}
use Rattle.vlog_tree.specs.Statements.{SpellsLval, SpellsStmt, SpellsEvents, lval_height, stmt_height}
use Rattle.vlog_tree.specs.declared.item.Range.{Range}
use Rattle.vlog_tree.specs.declared.item.Shape.{Shape}
use Rattle.vlog_tree.specs.declared.item.PortKind.{PortKind}
use Rattle.vlog_tree.specs.declared.item.PortKind.TheVariants as p
use Rattle.vlog_tree.specs.declared.item.Wire.{Wire}
use Rattle.vlog_tree.specs.declared.item.Register.{Register}
use Rattle.vlog_tree.specs.declared.item.Parameter.{Parameter}
use Rattle.vlog_tree.specs.declared.item.Assign.{Assign}
use Rattle.vlog_tree.specs.declared.item.Connection.{Connection}
use Rattle.vlog_tree.specs.declared.item.Args.{Args}
use Rattle.vlog_tree.specs.declared.item.Args.TheVariants as g
use Rattle.vlog_tree.specs.declared.item.Instance.{Instance}
use Rattle.vlog_tree.specs.declared.item.Item.{Item}
use Rattle.vlog_tree.specs.declared.item.Item.TheVariants as t
use Rattle.vlog_tree.specs.declared.module.HeaderParameter.{HeaderParameter}
use Rattle.vlog_tree.specs.declared.module.HeaderParameter.TheVariants as r
use Rattle.vlog_tree.specs.declared.module.HeaderPort.{HeaderPort}
use Rattle.vlog_tree.specs.declared.module.HeaderPort.TheVariants as h
use Rattle.vlog_tree.specs.declared.module.Ports.{Ports}
use Rattle.vlog_tree.specs.declared.module.Ports.TheVariants as q
use Rattle.vlog_tree.specs.declared.module.Module.{Module}

module _ (ts : List Token) where
  abbrev pub SpellsRange : ℕ → Range → ℕ → Type 0
  SpellsRange i x j = (m o : ℕ) × IsSign ts i (codes "[") × Spells false ts (i + 1) x.high m × IsSign ts m (codes ":") × Spells false ts (m + 1) x.low o × IsSign ts o (codes "]") × (j ≡ o + 1)

  abbrev pub SpellsShape : ℕ → Shape → ℕ → Type 0
  SpellsShape i x j = (m : ℕ) × Flag ts (codes "signed") i x.signed m × Maybe SpellsRange m x.range j

  -- `wire` says nothing
  abbrev pub SpellsKind : ℕ → PortKind → ℕ → Type 0
  SpellsKind i p.Input j = (w : Bool) × IsWord ts i (codes "input") × Flag ts (codes "wire") (i + 1) w j
  SpellsKind i p.Output j = (w : Bool) × IsWord ts i (codes "output") × Flag ts (codes "wire") (i + 1) w j
  SpellsKind i p.OutputReg j = IsWord ts i (codes "output") × IsWord ts (i + 1) (codes "reg") × (j ≡ i + 2)

  abbrev pub SpellsValue : ℕ → Expr → ℕ → Type 0
  SpellsValue i x j = IsSign ts i (codes "=") × Spells false ts (i + 1) x j

  abbrev pub SpellsWire : ℕ → Wire → ℕ → Type 0
  SpellsWire i x j = IsIdentifier false ts i x.name × Maybe SpellsValue (i + 1) x.value j

  abbrev pub SpellsRegister : ℕ → Register → ℕ → Type 0
  SpellsRegister i x j = IsIdentifier false ts i x.name × Maybe SpellsRange (i + 1) x.words j

  abbrev pub SpellsParameter : ℕ → Parameter → ℕ → Type 0
  SpellsParameter i x j = IsIdentifier false ts i x.name × SpellsValue (i + 1) x.value j

  abbrev pub SpellsAssign : ℕ → Assign → ℕ → Type 0
  SpellsAssign i x j = (m : ℕ) × SpellsLval ts i x.left m × SpellsValue m x.right j

  abbrev pub SpellsConnection : ℕ → Connection → ℕ → Type 0
  SpellsConnection i x j = IsSign ts i (codes ".") × IsIdentifier false ts (i + 1) x.port × InParens ts (Maybe (Spells false ts)) (i + 2) x.value j

  abbrev pub SpellsArgs : ℕ → Args → ℕ → Type 0
  SpellsArgs i (g.Exprs xs) j = Separated (Comma ts) (Spells false ts) i xs j
  SpellsArgs i (g.Named xs) j = Separated (Comma ts) SpellsConnection i xs j

  abbrev pub SpellsInstance : ℕ → Instance → ℕ → Type 0
  SpellsInstance i x j = IsIdentifier false ts i x.name × InParens ts (Maybe SpellsArgs) (i + 1) x.args j

  -- a word, then sign and range, then the list
  abbrev pub Declares : {A : Type 0} → List ℕ → (ℕ → A → ℕ → Type 0) → ℕ → Shape → List A → ℕ → Type 0
  Declares word P i shape xs j = (m : ℕ) × IsWord ts i word × SpellsShape (i + 1) shape m × UpToEnd ts P m xs j

  abbrev pub SpellsItem : ℕ → Item → ℕ → Type 0
  SpellsItem i (t.Ports kind shape xs) j = (m o : ℕ) × SpellsKind i kind m × SpellsShape m shape o × UpToEnd ts (IsNamed false ts) o xs j
  SpellsItem i (t.Wires shape xs) j = Declares (codes "wire") SpellsWire i shape xs j
  SpellsItem i (t.Registers shape xs) j = Declares (codes "reg") SpellsRegister i shape xs j
  SpellsItem i (t.Parameters shape xs) j = Declares (codes "parameter") SpellsParameter i shape xs j
  SpellsItem i (t.LocalParameters shape xs) j = Declares (codes "localparam") SpellsParameter i shape xs j
  SpellsItem i (t.Assigns xs) j = IsWord ts i (codes "assign") × UpToEnd ts SpellsAssign (i + 1) xs j
  -- no `else` follows an item, so its statement needs no more
  SpellsItem i (t.Always events body) j =
      (m : ℕ) × IsWord ts i (codes "always") × IsSign ts (i + 1) (codes "@") × SpellsEvents ts (i + 2) events m × SpellsStmt ts m body j
  SpellsItem i (t.Instances name overrides xs) j = (m : ℕ) × IsIdentifier false ts i name × Maybe (AfterHash ts SpellsArgs) (i + 1) overrides m × UpToEnd ts SpellsInstance m xs j

  -- headers: the first of a list begins a group
  abbrev pub SpellsHeaderParameter : ℕ → HeaderParameter → ℕ → Type 0
  SpellsHeaderParameter i (r.Group shape x) j = (m : ℕ) × IsWord ts i (codes "parameter") × SpellsShape (i + 1) shape m × SpellsParameter m x j
  SpellsHeaderParameter i (r.Again x) j = SpellsParameter i x j

  abbrev pub SpellsHeaderPort : ℕ → HeaderPort → ℕ → Type 0
  SpellsHeaderPort i (h.Group kind shape n) j = (m o : ℕ) × SpellsKind i kind m × SpellsShape m shape o × IsNamed false ts o n j
  SpellsHeaderPort i (h.Again n) j = IsNamed false ts i n j

  abbrev pub BeginsGroup : List HeaderPort → Type 0
  BeginsGroup (h.Group kind shape n ∷ xs) = Unit {0}
  BeginsGroup (h.Again n ∷ xs) = ⊥
  BeginsGroup [] = ⊥

  abbrev pub BeginsParameters : List HeaderParameter → Type 0
  BeginsParameters (r.Group shape x ∷ xs) = Unit {0}
  BeginsParameters (r.Again x ∷ xs) = ⊥
  BeginsParameters [] = ⊥

  abbrev pub SpellsParameters : ℕ → List HeaderParameter → ℕ → Type 0
  SpellsParameters i xs j = BeginsParameters xs × Separated (Comma ts) SpellsHeaderParameter i xs j

  abbrev pub SpellsPorts : ℕ → Ports → ℕ → Type 0
  SpellsPorts i (q.Names xs) j = Separated (Comma ts) (IsNamed false ts) i xs j
  SpellsPorts i (q.Groups xs) j = BeginsGroup xs × Separated (Comma ts) SpellsHeaderPort i xs j

  -- no ports: `()` or nothing
  abbrev pub SpellsHeader : ℕ → Option Ports → ℕ → Type 0
  SpellsHeader i None j = (i ≡ j) ⊎ (IsSign ts i (codes "(") × IsSign ts (i + 1) (codes ")") × (j ≡ i + 2))
  SpellsHeader i (Some x) j = InParens ts SpellsPorts i x j

  abbrev pub SpellsModule : ℕ → Module → ℕ → Type 0
  SpellsModule i x j =
      (a b c : ℕ) × IsWord ts i (codes "module") × IsIdentifier false ts (i + 1) x.name × Maybe (AfterHash ts SpellsParameters) (i + 2) x.parameters a
      × SpellsHeader a x.ports b × IsSign ts b (codes ";") × Sequence SpellsItem (b + 1) x.items c × IsWord ts c (codes "endmodule") × (j ≡ c + 1)

  -- a whole text: one module or more
  abbrev pub SpellsFile : List Module → Type 0
  SpellsFile xs = (0 < length xs) × Sequence SpellsModule 0 xs (length ts)

-- heights: modules, items, statements, expressions and left sides are nodes, and what holds them between adds nothing
abbrev pub range_height : Range → ℕ
range_height x = max (height x.high) (height x.low)

abbrev pub shape_height : Shape → ℕ
shape_height x = highest_of range_height x.range

abbrev pub wire_height : Wire → ℕ
wire_height x = highest_of height x.value

abbrev pub register_height : Register → ℕ
register_height x = highest_of range_height x.words

abbrev pub parameter_height : Parameter → ℕ
parameter_height x = height x.value

abbrev pub assign_height : Assign → ℕ
assign_height x = max (lval_height x.left) (height x.right)

abbrev pub connection_height : Connection → ℕ
connection_height x = highest_of height x.value

abbrev pub args_height : Args → ℕ
args_height (g.Exprs xs) = highest height xs
args_height (g.Named xs) = highest connection_height xs

abbrev pub instance_height : Instance → ℕ
instance_height x = highest_of args_height x.args

abbrev pub item_height : Item → ℕ
item_height (t.Ports kind shape xs) = shape_height shape + 1
item_height (t.Wires shape xs) = max (shape_height shape) (highest wire_height xs) + 1
item_height (t.Registers shape xs) = max (shape_height shape) (highest register_height xs) + 1
item_height (t.Parameters shape xs) = max (shape_height shape) (highest parameter_height xs) + 1
item_height (t.LocalParameters shape xs) = max (shape_height shape) (highest parameter_height xs) + 1
item_height (t.Assigns xs) = highest assign_height xs + 1
item_height (t.Always events body) = stmt_height body + 1
item_height (t.Instances name overrides xs) = max (highest_of args_height overrides) (highest instance_height xs) + 1

abbrev pub header_parameter_height : HeaderParameter → ℕ
header_parameter_height (r.Group shape x) = max (shape_height shape) (parameter_height x)
header_parameter_height (r.Again x) = parameter_height x

abbrev pub header_port_height : HeaderPort → ℕ
header_port_height (h.Group kind shape n) = shape_height shape
header_port_height (h.Again n) = 0

abbrev pub ports_height : Ports → ℕ
ports_height (q.Names xs) = 0
ports_height (q.Groups xs) = highest header_port_height xs

abbrev pub module_height : Module → ℕ
module_height x = max (highest_of (highest header_parameter_height) x.parameters) (max (highest_of ports_height x.ports) (highest item_height x.items)) + 1

-- the height of a module list: that of its highest module
abbrev pub file_height : List Module → ℕ
file_height xs = highest module_height xs
