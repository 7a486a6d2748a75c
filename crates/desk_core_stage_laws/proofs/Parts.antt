-- The names and expressions of the items of a module that a text spells.
use Rattle.std.proofs.Common.{◌≡◌, ℕ, ◌+◌, List, [], ◌∷◌, Option, Some, None, Bool, true, false, refl, inl, inr, map}
use Rattle.std.specs.Prelude.{codes}
use Rattle.vlog_tree.specs.declared.token.Token.{Token}
use Rattle.vlog_tree.specs.declared.expr.Expr.{Expr}
use Rattle.vlog_tree.specs.declared.item.Args.{Args}
use Rattle.vlog_tree.specs.declared.item.Args.TheVariants as g
use Rattle.vlog_tree.specs.declared.item.Assign.{Assign}
use Rattle.vlog_tree.specs.declared.item.Connection.{Connection}
use Rattle.vlog_tree.specs.declared.item.Instance.{Instance}
use Rattle.vlog_tree.specs.declared.item.Item.{Item}
use Rattle.vlog_tree.specs.declared.item.Item.TheVariants as t
use Rattle.vlog_tree.specs.declared.item.Parameter.{Parameter}
use Rattle.vlog_tree.specs.declared.item.PortKind.{PortKind}
use Rattle.vlog_tree.specs.declared.item.Range.{Range}
use Rattle.vlog_tree.specs.declared.item.Register.{Register}
use Rattle.vlog_tree.specs.declared.item.Shape.{Shape}
use Rattle.vlog_tree.specs.declared.item.Wire.{Wire}
use Rattle.vlog_tree.specs.declared.module.HeaderParameter.{HeaderParameter}
use Rattle.vlog_tree.specs.declared.module.HeaderParameter.TheVariants as r
use Rattle.vlog_tree.specs.declared.module.HeaderPort.{HeaderPort}
use Rattle.vlog_tree.specs.declared.module.HeaderPort.TheVariants as h
use Rattle.vlog_tree.specs.Signs.{IsWord}
use Rattle.vlog_tree.specs.Lists.{Maybe, Comma, AfterHash, UpToEnd}
use Rattle.vlog_tree.specs.Spelling.{IsNamed, Spells}
use Rattle.vlog_tree.specs.Modules.{SpellsRange, SpellsShape, SpellsValue, SpellsWire, SpellsRegister, SpellsParameter, SpellsAssign, SpellsConnection, SpellsArgs, SpellsInstance, Declares, SpellsItem, SpellsHeaderParameter, SpellsHeaderPort}
use Rattle.vlog_tree_runs.specs.Places.{Name}
use Rattle.vlog_tree_runs.specs.Contents.{Param, param, header_params, item_params, Decl, port_decl, wire_decl, reg_decl, header_decls, item_decls, assign_of, wire_assign, item_assigns, Block, item_blocks, Inner, inner_of, item_instances}
use Rattle.elab_flat_laws.specs.Uses.{IsPresent, has_dot}
use Rattle.elab_flat_faults.specs.Texts.{numbers_in, expr_of, named_expr, args_in, range_exprs, decl_exprs, param_exprs, assign_exprs, block_exprs, inner_exprs}
use Rattle.desk_core_stage_laws.proofs.Elements.{Each, each_none, each_more, each_one, each_append, each_map, each_flat, each_of_list}
use Rattle.desk_core_stage_laws.proofs.Exprs.{present, numbers_present}
use Rattle.desk_core_stage_laws.proofs.Bodies.{block_read}

abbrev pub IsSimple : Name → Type 0
IsSimple x = has_dot x ≡ false

abbrev IsPresentShape : Shape → Type 0
IsPresentShape x = Each IsPresent (range_exprs x.range)

-- ---- what holds of the contents of a module

pub record IsPlainDecl (d : Decl) : Type 0 where
  pub name : IsSimple d.name
  pub exprs : Each IsPresent (decl_exprs d)

abbrev pub IsPlainParam : Param → Type 0
IsPlainParam p = Each IsPresent (param_exprs p)

abbrev pub IsPlainAssign : Assign → Type 0
IsPlainAssign a = Each IsPresent (assign_exprs a)

abbrev pub IsPlainBlock : Block → Type 0
IsPlainBlock k = Each IsPresent (block_exprs k)

pub record IsPlainInner (i : Inner) : Type 0 where
  pub name : IsSimple i.name
  pub exprs : Each IsPresent (inner_exprs i)

pub record IsPlainItem (x : Item) : Type 0 where
  pub params : Each IsPlainParam (item_params x)
  pub decls : Each IsPlainDecl (item_decls x)
  pub assigns : Each IsPlainAssign (item_assigns x)
  pub blocks : Each IsPlainBlock (item_blocks x)
  pub instances : Each IsPlainInner (item_instances x)

declared : (d : Decl) → IsSimple d.name → IsPresentShape d.shape → Each IsPresent (range_exprs d.words) → IsPlainDecl d
declared d n s w = record { name = n; exprs = each_append IsPresent (range_exprs d.shape.range) (range_exprs d.words) s w }

valued : (p : Param) → IsPresentShape p.shape → IsPresent p.value → IsPlainParam p
valued p s v = each_append IsPresent (range_exprs p.shape.range) (p.value ∷ []) s (each_one IsPresent p.value v)

placed : (i : Inner) → IsSimple i.name → Each IsPresent (args_in i.overrides) → Each IsPresent (args_in i.args) → IsPlainInner i
placed i n o a = record { name = n; exprs = each_append IsPresent (args_in i.overrides) (args_in i.args) o a }

-- ---- headers

abbrev pub IsPlainHeaderParameter : HeaderParameter → Type 0
IsPlainHeaderParameter (r.Group shape x) = IsPresentShape shape × IsPresent x.value
IsPlainHeaderParameter (r.Again x) = IsPresent x.value

abbrev pub IsPlainHeaderPort : HeaderPort → Type 0
IsPlainHeaderPort (h.Group kind shape x) = IsPresentShape shape × IsSimple x
IsPlainHeaderPort (h.Again x) = IsSimple x

pub header_plain_params : (shape : Shape) → Each IsPresent (range_exprs shape.range) → (xs : List HeaderParameter) → Each IsPlainHeaderParameter xs → Each IsPlainParam (header_params shape xs)
header_plain_params shape s [] p = each_none IsPlainParam
header_plain_params shape s (r.Group own x ∷ xs) p =
    let a : IsPresentShape own × IsPresent x.value = p (r.Group own x) (inl refl) in
    each_more IsPlainParam (param true false own x) (header_params own xs) (valued (param true false own x) a.0 a.1) (header_plain_params own a.0 xs (λ y m. p y (inr m)))
header_plain_params shape s (r.Again x ∷ xs) p =
    let a : IsPresent x.value = p (r.Again x) (inl refl) in
    each_more IsPlainParam (param true false shape x) (header_params shape xs) (valued (param true false shape x) s a) (header_plain_params shape s xs (λ y m. p y (inr m)))

pub header_plain_decls : (kind : PortKind) (shape : Shape) → Each IsPresent (range_exprs shape.range) → (xs : List HeaderPort) → Each IsPlainHeaderPort xs → Each IsPlainDecl (header_decls kind shape xs)
header_plain_decls kind shape s [] p = each_none IsPlainDecl
header_plain_decls kind shape s (h.Group d own x ∷ xs) p =
    let a : IsPresentShape own × IsSimple x = p (h.Group d own x) (inl refl) in
    each_more IsPlainDecl (port_decl d own x) (header_decls d own xs) (declared (port_decl d own x) a.1 a.0 (each_none IsPresent)) (header_plain_decls d own a.0 xs (λ y m. p y (inr m)))
header_plain_decls kind shape s (h.Again x ∷ xs) p =
    let a : IsSimple x = p (h.Again x) (inl refl) in
    each_more IsPlainDecl (port_decl kind shape x) (header_decls kind shape xs) (declared (port_decl kind shape x) a s (each_none IsPresent)) (header_plain_decls kind shape s xs (λ y m. p y (inr m)))

-- ---- what a text spells, whose words have no dot

module _ (ts : List Token) (simple : (i : ℕ) (w : List ℕ) → IsWord ts i w → has_dot w ≡ false) where
  maybe_range : (i : ℕ) (x : Option Range) (j : ℕ) → Maybe (SpellsRange ts) i x j → Each IsPresent (range_exprs x)
  maybe_range i None j p = each_none IsPresent
  maybe_range i (Some x) j p =
      each_more IsPresent x.high (x.low ∷ []) (present ts (i + 1) x.high p.0 p.3) (each_one IsPresent x.low (present ts (p.0 + 1) x.low p.1 p.5))

  shape_read : (i : ℕ) (x : Shape) (j : ℕ) → SpellsShape ts i x j → IsPresentShape x
  shape_read i x j p = maybe_range p.0 x.range j p.2

  named_read : (i : ℕ) (x : List ℕ) (j : ℕ) → IsNamed false ts i x j → IsSimple x
  named_read i x j p = simple i x p.0.stands

  abbrev IsPlainWire : Wire → Type 0
  IsPlainWire x = IsSimple x.name × Each IsPresent (expr_of x.value)

  maybe_value : (i : ℕ) (x : Option Expr) (j : ℕ) → Maybe (SpellsValue ts) i x j → Each IsPresent (expr_of x)
  maybe_value i None j p = each_none IsPresent
  maybe_value i (Some a) j p = each_one IsPresent a (present ts (i + 1) a j p.1)

  wire_read : (i : ℕ) (x : Wire) (j : ℕ) → SpellsWire ts i x j → IsPlainWire x
  wire_read i x j p = (simple i x.name p.0.stands, maybe_value (i + 1) x.value j p.1)

  abbrev IsPlainRegister : Register → Type 0
  IsPlainRegister x = IsSimple x.name × Each IsPresent (range_exprs x.words)

  register_read : (i : ℕ) (x : Register) (j : ℕ) → SpellsRegister ts i x j → IsPlainRegister x
  register_read i x j p = (simple i x.name p.0.stands, maybe_range (i + 1) x.words j p.1)

  abbrev HasPresentValue : Parameter → Type 0
  HasPresentValue x = IsPresent x.value

  parameter_read : (i : ℕ) (x : Parameter) (j : ℕ) → SpellsParameter ts i x j → HasPresentValue x
  parameter_read i x j p = present ts (i + 1 + 1) x.value j p.1.1

  assign_read : (i : ℕ) (x : Assign) (j : ℕ) → SpellsAssign ts i x j → IsPlainAssign x
  assign_read i x j p =
      each_append IsPresent (numbers_in x.left) (x.right ∷ []) (numbers_present ts i x.left p.0 p.1) (each_one IsPresent x.right (present ts (p.0 + 1) x.right j p.2.1))

  maybe_expr : (i : ℕ) (x : Option Expr) (j : ℕ) → Maybe (Spells false ts) i x j → Each IsPresent (expr_of x)
  maybe_expr i None j p = each_none IsPresent
  maybe_expr i (Some a) j p = each_one IsPresent a (present ts i a j p)

  connection_read : (i : ℕ) (x : Connection) (j : ℕ) → SpellsConnection ts i x j → Each IsPresent (named_expr x)
  connection_read i x j p = maybe_expr (i + 2 + 1) x.value p.2.0 p.2.2

  args_read : (i : ℕ) (x : Args) (j : ℕ) → SpellsArgs ts i x j → Each IsPresent (args_in (Some x))
  args_read i (g.Exprs xs) j p = each_of_list (Spells false ts) IsPresent (present ts) (Comma ts) i xs j p
  args_read i (g.Named xs) j p =
      each_flat IsPresent named_expr xs (each_of_list (SpellsConnection ts) (λ x. Each IsPresent (named_expr x)) connection_read (Comma ts) i xs j p)

  maybe_args : (i : ℕ) (x : Option Args) (j : ℕ) → Maybe (SpellsArgs ts) i x j → Each IsPresent (args_in x)
  maybe_args i None j p = each_none IsPresent
  maybe_args i (Some x) j p = args_read i x j p

  overrides_read : (i : ℕ) (x : Option Args) (j : ℕ) → Maybe (AfterHash ts (SpellsArgs ts)) i x j → Each IsPresent (args_in x)
  overrides_read i None j p = each_none IsPresent
  overrides_read i (Some x) j p = args_read (i + 1 + 1) x p.1.0 p.1.2

  abbrev IsPlainInstance : Instance → Type 0
  IsPlainInstance x = IsSimple x.name × Each IsPresent (args_in x.args)

  instance_read : (i : ℕ) (x : Instance) (j : ℕ) → SpellsInstance ts i x j → IsPlainInstance x
  instance_read i x j p = (simple i x.name p.0.stands, maybe_args (i + 1 + 1) x.args p.1.0 p.1.2)

  -- a list up to its semicolon
  list_read : {A : Type 0} (P : ℕ → A → ℕ → Type 0) (Q : A → Type 0) → ((i : ℕ) (x : A) (j : ℕ) → P i x j → Q x) →
      (i : ℕ) (xs : List A) (j : ℕ) → UpToEnd ts P i xs j → Each Q xs
  list_read P Q known i xs j p = each_of_list P Q known (Comma ts) i xs p.0 p.1

  -- ---- items

  parameters_read : (word : List ℕ) (is_local : Bool) (i : ℕ) (shape : Shape) (xs : List Parameter) (j : ℕ) → Declares ts word (SpellsParameter ts) i shape xs j →
      Each IsPlainParam (map (param false is_local shape) xs)
  parameters_read word is_local i shape xs j p =
      let s = shape_read (i + 1) shape p.0 p.2 in
      each_map IsPlainParam (param false is_local shape) xs
      (λ x m. valued (param false is_local shape x) s (list_read (SpellsParameter ts) HasPresentValue parameter_read p.0 xs j p.3 x m))

  pub item_read : (i : ℕ) (x : Item) (j : ℕ) → SpellsItem ts i x j → IsPlainItem x
  item_read i (t.Ports kind shape xs) j p =
      let s = shape_read p.0 shape p.1 p.3 in
      record {
        params = each_none IsPlainParam;
        decls = each_map IsPlainDecl (port_decl kind shape) xs
            (λ x m. declared (port_decl kind shape x) (list_read (IsNamed false ts) IsSimple named_read p.1 xs j p.4 x m) s (each_none IsPresent));
        assigns = each_none IsPlainAssign;
        blocks = each_none IsPlainBlock;
        instances = each_none IsPlainInner;
      }
  item_read i (t.Wires shape xs) j p =
      let s = shape_read (i + 1) shape p.0 p.2 in
      let ws = list_read (SpellsWire ts) IsPlainWire wire_read p.0 xs j p.3 in
      record {
        params = each_none IsPlainParam;
        decls = each_map IsPlainDecl (wire_decl shape) xs (λ x m. declared (wire_decl shape x) (ws x m).0 s (each_none IsPresent));
        assigns = each_flat IsPlainAssign wire_assign xs (λ x m. wire_assigned x.name x.value (ws x m).1);
        blocks = each_none IsPlainBlock;
        instances = each_none IsPlainInner;
      }
    where
      wire_assigned : (x : Name) (v : Option Expr) → Each IsPresent (expr_of v) → Each IsPlainAssign (assign_of x v)
      wire_assigned x None q = each_none IsPlainAssign
      wire_assigned x (Some a) q = each_one IsPlainAssign _ q
  item_read i (t.Registers shape xs) j p =
      let s = shape_read (i + 1) shape p.0 p.2 in
      let rs = list_read (SpellsRegister ts) IsPlainRegister register_read p.0 xs j p.3 in
      record {
        params = each_none IsPlainParam;
        decls = each_map IsPlainDecl (reg_decl shape) xs (λ x m. declared (reg_decl shape x) (rs x m).0 s (rs x m).1);
        assigns = each_none IsPlainAssign;
        blocks = each_none IsPlainBlock;
        instances = each_none IsPlainInner;
      }
  item_read i (t.Parameters shape xs) j p = record {
    params = parameters_read (codes "parameter") false i shape xs j p;
    decls = each_none IsPlainDecl;
    assigns = each_none IsPlainAssign;
    blocks = each_none IsPlainBlock;
    instances = each_none IsPlainInner;
  }
  item_read i (t.LocalParameters shape xs) j p = record {
    params = parameters_read (codes "localparam") true i shape xs j p;
    decls = each_none IsPlainDecl;
    assigns = each_none IsPlainAssign;
    blocks = each_none IsPlainBlock;
    instances = each_none IsPlainInner;
  }
  item_read i (t.Assigns xs) j p = record {
    params = each_none IsPlainParam;
    decls = each_none IsPlainDecl;
    assigns = list_read (SpellsAssign ts) IsPlainAssign assign_read (i + 1) xs j p.1;
    blocks = each_none IsPlainBlock;
    instances = each_none IsPlainInner;
  }
  item_read i (t.Always events body) j p =
      let k : Block = record { events = events; body = body } in
      record {
        params = each_none IsPlainParam;
        decls = each_none IsPlainDecl;
        assigns = each_none IsPlainAssign;
        blocks = each_one IsPlainBlock k (block_read ts k p.0 j p.4);
        instances = each_none IsPlainInner;
      }
  item_read i (t.Instances name overrides xs) j p =
      let o = overrides_read (i + 1) overrides p.0 p.2 in
      let is = list_read (SpellsInstance ts) IsPlainInstance instance_read p.0 xs j p.3 in
      record {
        params = each_none IsPlainParam;
        decls = each_none IsPlainDecl;
        assigns = each_none IsPlainAssign;
        blocks = each_none IsPlainBlock;
        instances = each_map IsPlainInner (inner_of name overrides) xs (λ x m. placed (inner_of name overrides x) (is x m).0 o (is x m).1);
      }

  -- ---- headers

  pub header_parameter_read : (i : ℕ) (x : HeaderParameter) (j : ℕ) → SpellsHeaderParameter ts i x j → IsPlainHeaderParameter x
  header_parameter_read i (r.Group shape x) j p = (shape_read (i + 1) shape p.0 p.2, parameter_read p.0 x j p.3)
  header_parameter_read i (r.Again x) j p = parameter_read i x j p

  pub header_port_read : (i : ℕ) (x : HeaderPort) (j : ℕ) → SpellsHeaderPort ts i x j → IsPlainHeaderPort x
  header_port_read i (h.Group kind shape x) j p = (shape_read p.0 shape p.1 p.3, named_read p.1 x j p.4)
  header_port_read i (h.Again x) j p = named_read i x j p
